use Rattle.std.proofs.Common.{rules}
use Rattle.oth_book.proofs.add.AddError.number.Goals as goal

pub returns-in-Full : goal.returns-in-Full
returns-in-Full c = search rules
