use Rattle.std.proofs.Common.{rules}
use Rattle.oth_search.proofs.bounds.interval.Interval.of.Goals as goal

pub returns-else-lower-geminus64-clause-variant : goal.returns-else-lower-geminus64-clause-variant
returns-else-lower-geminus64-clause-variant c = search rules
