use Rattle.oth_rules.proofs.Words.{legal_empty}
use Rattle.oth_rules.proofs.board.Board.play_legal.Goals as goal

pub flips_of_empty-requires : goal.flips_of_empty-requires
flips_of_empty-requires c = legal_empty c.args.self.now c.args.square c.requires.legal
