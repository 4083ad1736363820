use Rattle.std.proofs.Common.{refl, rules}
use Rattle.oth_table.proofs.Choices.{some_cells}
use Rattle.oth_table.proofs.table.SharedTable.with_wear.Goals as goal

pub with_terms-requires-clause-some : goal.with_terms-requires-clause-some
with_terms-requires-clause-some c = some_cells _ (c.if-not-is_size.ensures.0 refl)

pub with_terms-requires-clause-cells : goal.with_terms-requires-clause-cells
with_terms-requires-clause-cells c = c.if-not-is_size.ensures.0 refl

pub returns-then-not-is_size-clause-err : goal.returns-then-not-is_size-clause-err
returns-then-not-is_size-clause-err c = search rules

pub with_terms-requires-clause-wear : goal.with_terms-requires-clause-wear
with_terms-requires-clause-wear c = search rules
