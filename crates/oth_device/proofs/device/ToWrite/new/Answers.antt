use Rattle.std.proofs.Common.{rules}
use Rattle.oth_device.proofs.device.ToWrite.new.Goals as goal

pub returns-clause-unflushed : goal.returns-clause-unflushed
returns-clause-unflushed g c = search rules
