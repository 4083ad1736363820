use Rattle.std.proofs.Common.{rules}
use Rattle.oth_run.proofs.fault.RunFault.number.Goals as goal

pub returns-in-Write : goal.returns-in-Write
returns-in-Write c = search rules
