use Rattle.std.proofs.Common.{rules}
use Rattle.oth_c.proofs.solving.accepted.Goals as goal

pub returns-then-empties-gt-MOST_EMPTIES-clause-err : goal.returns-then-empties-gt-MOST_EMPTIES-clause-err
returns-then-empties-gt-MOST_EMPTIES-clause-err c = search rules

pub returns-clause-accepted : goal.returns-clause-accepted
returns-clause-accepted c = search rules
