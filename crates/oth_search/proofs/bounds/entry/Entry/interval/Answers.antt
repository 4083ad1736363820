use Rattle.std.proofs.Common.{rules}
use Rattle.oth_search.proofs.bounds.entry.Entry.interval.Goals as goal

pub returns-clause-upper : goal.returns-clause-upper
returns-clause-upper c = search rules
