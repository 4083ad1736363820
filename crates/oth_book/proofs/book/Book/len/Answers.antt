use Rattle.std.proofs.Common.{rules}
use Rattle.oth_book.proofs.book.Book.len.Goals as goal

pub returns-clause-entries : goal.returns-clause-entries
returns-clause-entries c = search rules
