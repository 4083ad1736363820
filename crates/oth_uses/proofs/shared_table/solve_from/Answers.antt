use Rattle.std.proofs.Common.{rules}
use Rattle.oth_uses.proofs.shared_table.solve_from.Goals as goal

pub returns : goal.returns
returns c = search rules
