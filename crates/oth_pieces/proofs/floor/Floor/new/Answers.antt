use Rattle.oth_pieces.proofs.Floors.{opens}
use Rattle.oth_pieces.proofs.floor.Floor.new.Goals as goal

pub of_words-requires : goal.of_words-requires
of_words-requires c = rw (c.own.ensures.value, c.opp.ensures.value, c.code_of.ensures) (opens (record { board = c.args.board.now; scoring = c.args.scoring }))
