use Rattle.std.proofs.Common.{rules}
use Rattle.oth_c.proofs.rules.flipped.Goals as goal

pub returns-clause-ok : goal.returns-clause-ok
returns-clause-ok c = search rules
