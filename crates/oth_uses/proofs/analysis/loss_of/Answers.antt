use Rattle.std.proofs.Common.{rules}
use Rattle.oth_uses.proofs.analysis.loss_of.Goals as goal

pub returns-in-Some-clause-loss : goal.returns-in-Some-clause-loss
returns-in-Some-clause-loss c = search rules
