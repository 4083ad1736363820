use Rattle.std.proofs.Common.{◌+◌, ◌*◌}
use Rattle.oth_batch.proofs.beside.+beside+fn-beside-back.Given as goal

abbrev pub decreases-beside : goal.decreases-beside
decreases-beside g l = 2 * l.helpers

abbrev pub decreases-back : goal.decreases-back
decreases-back g l = 2 * l.fewer + 1
