use Rattle.std.proofs.Common.{rules}
use Rattle.oth_main.proofs.book.book_file.placed.Goals as goal

pub returns-in-Some-clause-text : goal.returns-in-Some-clause-text
returns-in-Some-clause-text c = search rules
