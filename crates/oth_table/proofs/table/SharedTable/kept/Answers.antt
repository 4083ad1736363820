use Rattle.std.proofs.Common.{rules}
use Rattle.oth_table.proofs.table.SharedTable.kept.Goals as goal

pub returns-clause-kept : goal.returns-clause-kept
returns-clause-kept c = search rules

pub of_words-requires : goal.of_words-requires
of_words-requires c = search rules
