use Rattle.std.proofs.Common.{arith}
use Rattle.std.proofs.lemmas.Int.{ints}
use Rattle.oth_search.proofs.RootLemmas.Surest.{surest-kept, surest-next}
use Rattle.oth_search.proofs.root.moves.surer.Goals as goal

pub returns-then-next-root_move : goal.returns-then-next-root_move
returns-then-next-root_move c ms h = surest-next ms c.in-Some.root_move c.args.next (rw c.in-Some.is at h) (omega (arith, ints, c.if-next-root_move.true))

pub returns-else-next-root_move : goal.returns-else-next-root_move
returns-else-next-root_move c ms h = surest-kept ms c.in-Some.root_move c.args.next (rw c.in-Some.is at h) (omega (arith, ints, c.if-next-root_move.false))
