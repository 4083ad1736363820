use Rattle.std.proofs.Common.{rules}
use Rattle.oth_search.proofs.bounds.backup.bounds_among.Goals as goal

pub returns-then-eq-2-clause-board : goal.returns-then-eq-2-clause-board
returns-then-eq-2-clause-board c = search rules
