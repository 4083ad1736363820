use Rattle.oth_rules.proofs.StableWords.{none_stable}
use Rattle.oth_rules.proofs.board.Board.stable_discs.Goals as goal

pub loop-init : goal.loop-init
loop-init c = none_stable c.args.self.now
