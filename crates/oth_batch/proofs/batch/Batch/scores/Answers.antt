use Rattle.std.proofs.Common.{rules}
use Rattle.oth_batch.proofs.batch.Batch.scores.Goals as goal

pub returns-clause-scoring : goal.returns-clause-scoring
returns-clause-scoring g c = search rules

pub returns-clause-board : goal.returns-clause-board
returns-clause-board g c = search rules
