use Rattle.std.proofs.Common.{rules}
use Rattle.oth_pieces.proofs.frontier.awake.Goals as goal

pub returns-then-can_move-2-clause-board : goal.returns-then-can_move-2-clause-board
returns-then-can_move-2-clause-board c = search rules
