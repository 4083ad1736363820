use Rattle.std.proofs.Common.{pos, negsuc, ◌≤ℤ◌}
use Rattle.oth_search.proofs.ordering.evaluation.look_past_moves.Given as goal

abbrev pub invariant-loop-rest : goal.invariant-loop-rest
invariant-loop-rest l = (negsuc 6399 ≤ℤ l.best.0) × (l.best.0 ≤ℤ pos 6400)

abbrev pub decreases-loop-rest : goal.decreases-loop-rest
decreases-loop-rest l = l.rest
