use Rattle.std.proofs.Common.{rules}
use Rattle.oth_table.proofs.cells.TableCells.of.Goals as goal

pub returns-clause-seat : goal.returns-clause-seat
returns-clause-seat c = search rules
