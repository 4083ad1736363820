use Rattle.oth_rules.proofs.Moves.{falling_lanes}
use Rattle.oth_rules.proofs.board.Board.outflanking_upwards.Goals as goal

pub returns : goal.returns
returns c = falling_lanes c.args.self.now c.own-own.result c.opp-opp.result c.own-own.ensures.board c.own-own.ensures.value c.opp-opp.ensures.value
