use Rattle.std.proofs.Common.{rules}
use Rattle.oth_uses.proofs.engine_cells.bounds_about.Goals as goal

pub returns-clause-decides : goal.returns-clause-decides
returns-clause-decides o c = search rules
