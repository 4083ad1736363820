use Rattle.std.proofs.Common.{rules}
use Rattle.oth_walk.proofs.root_bound.RootBound.floor.Goals as goal

pub returns-clause-low : goal.returns-clause-low
returns-clause-low c = search rules
