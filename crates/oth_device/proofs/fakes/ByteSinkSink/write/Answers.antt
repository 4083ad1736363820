use Rattle.std.proofs.Common.{rules}
use Rattle.oth_device.proofs.fakes.ByteSinkSink.write.Goals as goal

pub returns-clause-bytes : goal.returns-clause-bytes
returns-clause-bytes g c = search rules
