use Rattle.std.proofs.Common.{rules}
use Rattle.oth_c.proofs.scores.by_square.Goals as goal

pub loop-number-init : goal.loop-number-init
loop-number-init c = search rules
