use Rattle.std.proofs.Common.{rules}
use Rattle.oth_run.proofs.checking.Lawful.to_solve_by.Goals as goal

pub returns-clause-command : goal.returns-clause-command
returns-clause-command c = search rules
