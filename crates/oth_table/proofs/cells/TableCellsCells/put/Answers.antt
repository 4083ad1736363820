use Rattle.std.proofs.Common.{rules}
use Rattle.oth_table.proofs.cells.TableCellsCells.put.Goals as goal

pub returns-then-eq-clause-put : goal.returns-then-eq-clause-put
returns-then-eq-clause-put c = search rules

pub put_own-requires : goal.put_own-requires
put_own-requires c = search rules
