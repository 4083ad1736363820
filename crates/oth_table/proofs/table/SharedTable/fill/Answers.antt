use Rattle.std.proofs.Common.{rules}
use Rattle.oth_table.proofs.table.SharedTable.fill.Goals as goal

pub publish-requires-clause-claimed : goal.publish-requires-clause-claimed
publish-requires-clause-claimed c = search rules
