use Rattle.std.proofs.Common.{◌∷◌, [], arith}
use Rattle.std.proofs.lemmas.Int.{ints}
use Rattle.oth_search.proofs.NwsLemmas.Lasts as l
use Rattle.oth_search.proofs.nws.last.passed_two.Goals as goal

pub moves_two-found-requires-clause-last : goal.moves_two-found-requires-clause-last
moves_two-found-requires-clause-last c = l.Leaves-pass c.args.board c.pass-passed.result (c.args.a ∷ c.args.b ∷ []) c.requires.last c.pass-passed.ensures

pub returns-then-found : goal.returns-then-found
returns-then-found c =
    l.BoundsAt-after_pass c.args.scoring c.args.board c.pass-passed.result c.args.alpha _ _ c.moves_two-found.result c.pass-passed.ensures c.requires.none
    (omega (arith, ints)) (omega (arith, ints)) c.moves_two-found.ensures (λ e. absurd (omega (arith, ints, e, c.if-found.true)))

pub returns : goal.returns
returns c =
    l.BoundsAt-at_end c.args.scoring c.args.board c.pass-passed.result c.args.alpha _ c.moves_two-found.result _ c.pass-passed.ensures c.requires.none
    c.moves_two-found.ensures (omega (arith, ints, c.if-found.false)) (omega (arith, ints, rw c.board.ensures at c.final_score.ensures))
