use Rattle.std.proofs.Common.{ap, not, ◌∙◌}
use Rattle.oth_rules.specs.Move.{can_move}
use Rattle.oth_rules.proofs.Words.{move_test, not_not}
use Rattle.oth_rules.proofs.board.Board.can_move.Goals as goal

pub returns : goal.returns
returns c = ap not (move_test c.args.self.now c.moves.result c.moves.ensures) ∙ not_not (can_move c.args.self.now)
