use Rattle.std.proofs.Common.{rules}
use Rattle.oth_main.proofs.book.book_file.print_refusal.Goals as goal

pub returns-clause-reason : goal.returns-clause-reason
returns-clause-reason g c = search rules
