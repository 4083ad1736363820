use Rattle.std.proofs.Common.{rules}
use Rattle.oth_device.proofs.device.ToWriteSink.flush.Goals as goal

pub loop-preserved : goal.loop-preserved
loop-preserved g c = search rules

pub returns-in-Ok-clause-flushed : goal.returns-in-Ok-clause-flushed
returns-in-Ok-clause-flushed g c = search rules
