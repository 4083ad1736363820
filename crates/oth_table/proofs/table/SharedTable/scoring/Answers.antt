use Rattle.std.proofs.Common.{rules}
use Rattle.oth_table.proofs.table.SharedTable.scoring.Goals as goal

pub returns : goal.returns
returns c = search rules
