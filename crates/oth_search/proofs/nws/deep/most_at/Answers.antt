use Rattle.std.proofs.Common.{rules}
use Rattle.oth_search.proofs.nws.deep.most_at.Goals as goal

pub returns-then-most-alpha : goal.returns-then-most-alpha
returns-then-most-alpha c = search rules
