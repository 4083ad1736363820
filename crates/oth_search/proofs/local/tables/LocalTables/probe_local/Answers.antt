use Rattle.std.proofs.Common.{rules}
use Rattle.oth_search.proofs.local.tables.LocalTables.probe_local.Goals as goal

pub returns-in-Some : goal.returns-in-Some
returns-in-Some c = search rules
