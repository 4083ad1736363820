use Rattle.std.proofs.Common.{rules}
use Rattle.oth_table.proofs.table.SharedTable.put.Goals as goal

pub returns-clause-place : goal.returns-clause-place
returns-clause-place c = search rules
