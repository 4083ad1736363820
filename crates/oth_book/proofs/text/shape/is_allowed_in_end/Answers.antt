use Rattle.std.proofs.Common.{rules}
use Rattle.oth_book.proofs.text.shape.is_allowed_in_end.Goals as goal

pub returns-in_default : goal.returns-in_default
returns-in_default c = search rules
