use Rattle.std.proofs.Common.{arith}
use Rattle.std.proofs.lemmas.Int.{ints}
use Rattle.oth_search.proofs.NwsLemmas.Lasts as l
use Rattle.oth_search.proofs.nws.last.last_two.Goals as goal

pub returns-then-found : goal.returns-then-found
returns-then-found c =
    l.BoundsAt-moves c.args.scoring c.args.board c.args.alpha _ c.moves_two-found.result (omega (arith, ints))
    (l.MovesAt-at c.args.scoring c.args.board c.args.alpha _ c.moves_two-found.result (omega (arith, ints)) c.moves_two-found.ensures)
    (λ e. absurd (omega (arith, ints, e, c.if-found.true)))

pub passed_two-requires-clause-none : goal.passed_two-requires-clause-none
passed_two-requires-clause-none c = c.moves_two-found.ensures.none (omega (arith, ints, c.if-found.false))
