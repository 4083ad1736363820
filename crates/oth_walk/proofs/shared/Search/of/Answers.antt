use Rattle.std.proofs.Common.{rules}
use Rattle.oth_walk.proofs.shared.Search.of.Goals as goal

pub returns-clause-scoring : goal.returns-clause-scoring
returns-clause-scoring c = search rules
