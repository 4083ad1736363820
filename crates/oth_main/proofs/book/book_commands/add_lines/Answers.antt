use Rattle.std.proofs.Common.{rules}
use Rattle.oth_main.proofs.book.book_commands.add_lines.Goals as goal

pub returns-clause-status : goal.returns-clause-status
returns-clause-status g c = search rules

pub returns-in-Err-Run-clause-status : goal.returns-in-Err-Run-clause-status
returns-in-Err-Run-clause-status g c = search rules
