use Rattle.std.proofs.Common.{rules}
use Rattle.oth_device.proofs.device.FromReadSource.read.Goals as goal

pub returns-in-Ok-clause-bytes : goal.returns-in-Ok-clause-bytes
returns-in-Ok-clause-bytes g c = search rules
