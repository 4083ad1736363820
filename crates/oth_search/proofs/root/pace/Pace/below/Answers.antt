use Rattle.std.proofs.Common.{rules}
use Rattle.oth_search.proofs.root.pace.Pace.below.Goals as goal

pub returns-clause-low : goal.returns-clause-low
returns-clause-low c = search rules
