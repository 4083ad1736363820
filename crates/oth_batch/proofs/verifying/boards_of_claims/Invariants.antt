-- no more boards than claims so far, each small enough
use Rattle.std.proofs.Common.{◌≤◌, All, length}
use Rattle.oth_rules.specs.Position.{empty_count}
use Rattle.oth_batch.specs.declared.tuning.TheConstants.{ONE_WORKER_MAX_EMPTIES}
use Rattle.oth_batch.proofs.verifying.boards_of_claims.Given as goal

abbrev pub invariant-loop-place : goal.invariant-loop-place
invariant-loop-place l = record {
  count : length l.boards.items ≤ l.place;
  small : All (λ b. empty_count b ≤ ONE_WORKER_MAX_EMPTIES) l.boards.items;
}
