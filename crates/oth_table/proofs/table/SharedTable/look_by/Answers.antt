use Rattle.std.proofs.Common.{rules}
use Rattle.oth_table.proofs.table.SharedTable.look_by.Goals as goal

pub of_words-requires : goal.of_words-requires
of_words-requires c = search rules

pub returns-then-check-version-clause-place : goal.returns-then-check-version-clause-place
returns-then-check-version-clause-place c = search rules
