use Rattle.std.proofs.Common.{rules}
use Rattle.oth_book.proofs.book.is_exact.Goals as goal

pub returns : goal.returns
returns c = search rules
