use Rattle.std.proofs.Common.{rules}
use Rattle.oth_device.proofs.device.ToWriteSink.write.Goals as goal

pub returns-in-Ok-clause-unflushed : goal.returns-in-Ok-clause-unflushed
returns-in-Ok-clause-unflushed g c = search rules

pub returns-in-Ok-clause-some : goal.returns-in-Ok-clause-some
returns-in-Ok-clause-some g c = search rules

pub returns-in-Ok-clause-idle : goal.returns-in-Ok-clause-idle
returns-in-Ok-clause-idle g c = search rules
