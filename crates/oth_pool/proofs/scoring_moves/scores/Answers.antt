use Rattle.std.proofs.Common.{rules}
use Rattle.oth_pool.proofs.scoring_moves.scores.Goals as goal

pub returns-clause-answer : goal.returns-clause-answer
returns-clause-answer g c = search rules
