use Rattle.std.proofs.Common.{rules}
use Rattle.oth_book.proofs.book.Book.new.Goals as goal

pub returns : goal.returns
returns c = search rules
