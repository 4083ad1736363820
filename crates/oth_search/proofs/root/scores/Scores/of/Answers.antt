use Rattle.std.proofs.Common.{rules}
use Rattle.oth_search.proofs.root.scores.Scores.of.Goals as goal

pub invariant_of-result : goal.invariant_of-result
invariant_of-result g c = search rules
