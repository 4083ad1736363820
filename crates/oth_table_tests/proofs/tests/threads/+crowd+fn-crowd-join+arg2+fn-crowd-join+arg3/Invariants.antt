use Rattle.oth_table_tests.proofs.tests.threads.+crowd+fn-crowd-join+arg2+fn-crowd-join+arg3.Given as goal

abbrev pub decreases-crowd : goal.decreases-crowd
decreases-crowd g l = l.numbers.count

abbrev pub decreases-join+arg2 : goal.decreases-join+arg2
decreases-join+arg2 g l = l.left.count

abbrev pub decreases-join+arg3 : goal.decreases-join+arg3
decreases-join+arg3 g l = l.right.count
