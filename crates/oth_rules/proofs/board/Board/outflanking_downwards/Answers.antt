use Rattle.oth_rules.proofs.Moves.{rising_lanes}
use Rattle.oth_rules.proofs.board.Board.outflanking_downwards.Goals as goal

pub returns : goal.returns
returns c = rising_lanes c.args.self.now c.own-own.result c.opp-opp.result c.own-own.ensures.board c.own-own.ensures.value c.opp-opp.ensures.value
