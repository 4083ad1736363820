use Rattle.std.proofs.Common.{rules}
use Rattle.oth_c.proofs.solving.solved.Goals as goal

pub returns-clause-answered : goal.returns-clause-answered
returns-clause-answered c = search rules
