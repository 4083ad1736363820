use Rattle.oth_rules.proofs.LastMoves.{counted_most}
use Rattle.oth_rules.proofs.last_move.counted.Goals as goal

pub returns-clause-most : goal.returns-clause-most
returns-clause-most c = counted_most c.args.start c.args.discs c.args.factor c.requires
