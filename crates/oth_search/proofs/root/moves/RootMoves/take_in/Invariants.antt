use Rattle.std.proofs.Common.{◌≡◌}
use Rattle.oth_search.proofs.root.moves.RootMoves.take_in.Given as goal

abbrev pub invariant-loop-other : goal.invariant-loop-other
invariant-loop-other l = l.self ≡ l.fn.self
