use Rattle.std.proofs.Common.{rules}
use Rattle.oth_table.proofs.cells.TableCells.another.Goals as goal

pub returns-clause-same : goal.returns-clause-same
returns-clause-same c = search rules

pub returns-clause-made : goal.returns-clause-made
returns-clause-made c = search rules
