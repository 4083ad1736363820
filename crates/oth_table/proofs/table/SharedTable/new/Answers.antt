use Rattle.std.proofs.Common.{rules}
use Rattle.oth_table.proofs.table.SharedTable.new.Goals as goal

pub returns-clause-ok : goal.returns-clause-ok
returns-clause-ok c = search rules
