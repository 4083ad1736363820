use Rattle.std.proofs.Common.{sym, ◌∙◌}
use Rattle.oth_pieces.proofs.Rooms.{counted_below}
use Rattle.oth_pieces.proofs.frontier.count_below.Goals as goal

pub returns : goal.returns
returns c parent = rw (c.moves.ensures, c.awake-board.ensures.board) (counted_below parent c.args.child.now (rw (← c.awake-board.ensures.board) (sym c.is_over.ensures ∙ c.if-is_over.false)))
