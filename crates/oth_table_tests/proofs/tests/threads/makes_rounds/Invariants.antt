use Rattle.oth_table.specs.SharedTable.{IsSeatOf}
use Rattle.oth_table_tests.proofs.tests.threads.makes_rounds.Given as goal

abbrev pub invariant-loop : goal.invariant-loop
invariant-loop l = IsSeatOf l.table l.seat
