use Rattle.std.proofs.Common.{rules}
use Rattle.oth_run.proofs.checking.check_settings.Goals as goal

pub returns-clause-lawful : goal.returns-clause-lawful
returns-clause-lawful c = search rules
