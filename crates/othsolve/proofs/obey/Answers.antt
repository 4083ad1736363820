use Rattle.std.proofs.Common.{rules}
use Rattle.othsolve.proofs.obey.Goals as goal

pub returns-in-Ok-file_of-clause-done : goal.returns-in-Ok-file_of-clause-done
returns-in-Ok-file_of-clause-done g c = search rules
