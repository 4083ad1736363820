use Rattle.std.proofs.Common.{rules}
use Rattle.oth_table.proofs.Seats.{opens}
use Rattle.oth_table.proofs.table.SharedTable.with_terms.Goals as goal

pub of_words-requires : goal.of_words-requires
of_words-requires c = opens _ _ (search rules)
