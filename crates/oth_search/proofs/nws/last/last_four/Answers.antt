use Rattle.std.proofs.Common.{◌∷◌, [], arith}
use Rattle.std.proofs.lemmas.Int.{ints}
use Rattle.oth_search.proofs.NwsLemmas.Lasts as l
use Rattle.oth_search.proofs.nws.last.last_four.Goals as goal

pub moves_four-found-requires-2-clause-last : goal.moves_four-found-requires-2-clause-last
moves_four-found-requires-2-clause-last c =
    l.Leaves-pass c.args.board c.pass-passed.result (c.args.squares.now.a ∷ c.args.squares.now.b ∷ c.args.squares.now.c ∷ c.args.squares.now.d ∷ []) c.requires.last
    c.pass-passed.ensures

pub returns-then-found : goal.returns-then-found
returns-then-found c =
    l.BoundsAt-moves c.args.scoring c.args.board c.args.alpha _ c.moves_four-found.result (omega (arith, ints))
    (l.MovesAt-at c.args.scoring c.args.board c.args.alpha _ c.moves_four-found.result (omega (arith, ints)) c.moves_four-found.ensures)
    (λ e. absurd (omega (arith, ints, e, c.if-found.true)))

pub returns-then-found-2 : goal.returns-then-found-2
returns-then-found-2 c =
    l.BoundsAt-passed c.args.scoring c.args.board c.pass-passed.result c.args.alpha _ c.moves_four-found.result _ c.moves_four-found-2.result c.pass-passed.ensures
    (l.MovesAt-at c.args.scoring c.args.board c.args.alpha _ c.moves_four-found.result (omega (arith, ints)) c.moves_four-found.ensures)
    (omega (arith, ints, c.if-found.false))
    (omega (arith, ints)) (omega (arith, ints)) c.moves_four-found-2.ensures (λ e. absurd (omega (arith, ints, e, c.if-found-2.true)))

pub returns : goal.returns
returns c =
    l.BoundsAt-ended c.args.scoring c.args.board c.pass-passed.result c.args.alpha _ c.moves_four-found.result c.moves_four-found-2.result _ c.pass-passed.ensures
    (l.MovesAt-at c.args.scoring c.args.board c.args.alpha _ c.moves_four-found.result (omega (arith, ints)) c.moves_four-found.ensures)
    (omega (arith, ints, c.if-found.false))
    c.moves_four-found-2.ensures (omega (arith, ints, c.if-found-2.false)) (omega (arith, ints, rw c.board.ensures at c.final_score.ensures))
