use Rattle.oth_pieces.proofs.Rooms.{one_room, two_room}
use Rattle.oth_pieces.proofs.frontier.Frontier.of.Goals as goal

pub first_ply-first-requires : goal.first_ply-first-requires
first_ply-first-requires c = rw c.awake-root.ensures.board (one_room c.args.board.now c.requires.few)

pub second_ply-items-requires : goal.second_ply-items-requires
second_ply-items-requires c = rw (c.as_slice-else-plies-eq1.ensures.value, c.first_ply-first.ensures, c.awake-root.ensures.board) (two_room c.args.board.now c.requires.few)
