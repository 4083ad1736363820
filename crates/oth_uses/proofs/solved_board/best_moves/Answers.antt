use Rattle.std.proofs.Common.{rules}
use Rattle.oth_uses.proofs.solved_board.best_moves.Goals as goal

pub returns-in_err-board-clause-overlap : goal.returns-in_err-board-clause-overlap
returns-in_err-board-clause-overlap c = search rules

pub returns-clause-full : goal.returns-clause-full
returns-clause-full c = search rules
