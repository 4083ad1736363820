use Rattle.std.proofs.Common.{rules}
use Rattle.oth_search.proofs.root.value.value_of.Goals as goal

pub returns-clause-exact : goal.returns-clause-exact
returns-clause-exact g c = search rules
