use Rattle.oth_rules.proofs.Words.{legal_empty}
use Rattle.oth_rules.proofs.twin.Twin.play_legal.Goals as goal

pub flips-requires : goal.flips-requires
flips-requires c = legal_empty c.args.self c.args.square c.requires.legal
