use Rattle.std.proofs.Common.{◌≡◌}
use Rattle.oth_pool.proofs.solving.take_in_told.Given as goal

abbrev pub invariant-loop-place : goal.invariant-loop-place
invariant-loop-place l = l.moves ≡ l.fn.moves
