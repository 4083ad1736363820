use Rattle.std.proofs.Common.{rules}
use Rattle.oth_table.proofs.table.SharedTable.cells.Goals as goal

pub returns-clause-count : goal.returns-clause-count
returns-clause-count c = search rules
