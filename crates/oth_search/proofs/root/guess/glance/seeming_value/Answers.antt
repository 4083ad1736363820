use Rattle.std.proofs.Common.{rules}
use Rattle.oth_search.proofs.root.guess.glance.seeming_value.Goals as goal

pub returns-clause-score : goal.returns-clause-score
returns-clause-score g c = search rules
