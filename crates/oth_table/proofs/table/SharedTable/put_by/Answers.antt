use Rattle.std.proofs.Common.{rules}
use Rattle.oth_table.proofs.table.SharedTable.put_by.Goals as goal

pub claim-requires-clause-fresh : goal.claim-requires-clause-fresh
claim-requires-clause-fresh c = search rules

pub returns-then-version-self-clause-idle : goal.returns-then-version-self-clause-idle
returns-then-version-self-clause-idle c = search rules
