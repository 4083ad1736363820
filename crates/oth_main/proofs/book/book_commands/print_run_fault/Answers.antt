use Rattle.std.proofs.Common.{rules}
use Rattle.oth_main.proofs.book.book_commands.print_run_fault.Goals as goal

pub returns-in-Read-clause-reason : goal.returns-in-Read-clause-reason
returns-in-Read-clause-reason g c = search rules

pub returns-in-Read-clause-printed : goal.returns-in-Read-clause-printed
returns-in-Read-clause-printed g c = search rules

pub returns-in-Workers-clause-status : goal.returns-in-Workers-clause-status
returns-in-Workers-clause-status g c = search rules
