use Rattle.std.proofs.Common.{rules}
use Rattle.oth_search.proofs.bounds.solved.Solved.is_settled.Goals as goal

pub returns-else-is_exact : goal.returns-else-is_exact
returns-else-is_exact c = search rules
