use Rattle.std.proofs.Common.{rules}
use Rattle.oth_uses.proofs.analysis.scores_after.Goals as goal

pub returns-clause-scores : goal.returns-clause-scores
returns-clause-scores c = search rules

pub returns-in_err-board-clause-fault : goal.returns-in_err-board-clause-fault
returns-in_err-board-clause-fault c = search rules
