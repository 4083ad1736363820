use Rattle.std.proofs.Common.{rules}
use Rattle.oth_uses.proofs.in_time.bounds_in_time.Goals as goal

pub returns-clause-board : goal.returns-clause-board
returns-clause-board c = search rules
