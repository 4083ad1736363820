use Rattle.std.proofs.Common.{rules}
use Rattle.oth_search.proofs.bounds.interval.Interval.turned.Goals as goal

pub invariant_of-result : goal.invariant_of-result
invariant_of-result c = search rules
