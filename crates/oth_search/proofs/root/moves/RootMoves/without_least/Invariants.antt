use Rattle.std.proofs.Common.{◌≡◌}
use Rattle.oth_search.proofs.root.moves.RootMoves.without_least.Given as goal

abbrev pub invariant-loop-place : goal.invariant-loop-place
invariant-loop-place l = l.moves ≡ l.self
