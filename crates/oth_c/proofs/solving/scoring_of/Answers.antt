use Rattle.std.proofs.Common.{rules}
use Rattle.oth_c.proofs.solving.scoring_of.Goals as goal

pub returns-in-0-clause-ok : goal.returns-in-0-clause-ok
returns-in-0-clause-ok c = search rules
