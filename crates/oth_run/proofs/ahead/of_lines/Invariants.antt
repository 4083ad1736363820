-- no more than there may be
use Rattle.std.proofs.Common.{◌≤◌, length}
use Rattle.oth_batch.specs.declared.tuning.TheConstants.{MOST_JOBS}
use Rattle.oth_run.proofs.ahead.of_lines.Given as goal

abbrev pub invariant-loop : goal.invariant-loop
invariant-loop g l = length l.list.items ≤ MOST_JOBS
