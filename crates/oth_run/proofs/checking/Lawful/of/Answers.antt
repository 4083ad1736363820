use Rattle.std.proofs.Common.{rules}
use Rattle.oth_run.proofs.checking.Lawful.of.Goals as goal

pub returns-then-not-is_size-clause-lawful : goal.returns-then-not-is_size-clause-lawful
returns-then-not-is_size-clause-lawful c = search rules
