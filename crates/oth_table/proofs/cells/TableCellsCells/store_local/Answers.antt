use Rattle.std.proofs.Common.{rules}
use Rattle.oth_table.proofs.cells.TableCellsCells.store_local.Goals as goal

pub returns-clause-unchanged : goal.returns-clause-unchanged
returns-clause-unchanged c = search rules
