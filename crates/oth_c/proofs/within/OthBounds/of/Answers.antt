use Rattle.std.proofs.Common.{rules}
use Rattle.oth_c.proofs.within.OthBounds.of.Goals as goal

pub returns-clause-lower : goal.returns-clause-lower
returns-clause-lower c = search rules
