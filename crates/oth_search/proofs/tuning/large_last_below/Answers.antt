use Rattle.std.proofs.Common.{rules}
use Rattle.oth_search.proofs.tuning.large_last_below.Goals as goal

pub returns-in_default : goal.returns-in_default
returns-in_default c = search rules
