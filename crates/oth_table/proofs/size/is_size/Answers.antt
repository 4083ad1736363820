use Rattle.std.proofs.Common.{rules}
use Rattle.oth_table.proofs.size.is_size.Goals as goal

pub returns-then-cells-k : goal.returns-then-cells-k
returns-then-cells-k c = search rules
