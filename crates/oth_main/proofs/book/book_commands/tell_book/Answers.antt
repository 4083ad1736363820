use Rattle.std.proofs.Common.{rules}
use Rattle.oth_main.proofs.book.book_commands.tell_book.Goals as goal

pub returns-clause-told : goal.returns-clause-told
returns-clause-told g c = search rules
