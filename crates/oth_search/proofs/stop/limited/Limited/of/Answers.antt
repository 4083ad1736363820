use Rattle.std.proofs.Common.{rules}
use Rattle.oth_search.proofs.stop.limited.Limited.of.Goals as goal

pub returns-clause-left : goal.returns-clause-left
returns-clause-left g c = search rules
