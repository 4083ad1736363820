use Rattle.std.proofs.Common.{rules}
use Rattle.oth_book.proofs.claims.scoring_of.Goals as goal

pub returns-in-One : goal.returns-in-One
returns-in-One c = search rules
