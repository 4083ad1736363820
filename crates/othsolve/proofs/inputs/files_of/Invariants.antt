-- the files before this place are opened
use Rattle.std.proofs.Common.{◌≡◌, ◌+◌, false, length}
use Rattle.othsolve.proofs.inputs.files_of.Given as goal

abbrev pub invariant-loop-at : goal.invariant-loop-at
invariant-loop-at g l = record {
  works : l.inputs.has_failed ≡ false;
  opened : length l.inputs.later.items + 1 ≡ l.at;
}
