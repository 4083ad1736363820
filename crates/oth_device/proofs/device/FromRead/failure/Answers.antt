use Rattle.std.proofs.Common.{rules}
use Rattle.oth_device.proofs.device.FromRead.failure.Goals as goal

pub returns : goal.returns
returns g c = search rules
