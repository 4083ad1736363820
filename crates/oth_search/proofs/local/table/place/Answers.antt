use Rattle.std.proofs.Common.{arith}
use Rattle.std.proofs.lemmas.Nat.{and_le_r}
use Rattle.oth_search.proofs.local.table.place.Goals as goal

pub returns : goal.returns
returns c = search (arith, and_le_r)
