use Rattle.std.proofs.Common.{rules}
use Rattle.oth_book.proofs.text.read.is_above_last.Goals as goal

pub returns-in-Some : goal.returns-in-Some
returns-in-Some c = search rules
