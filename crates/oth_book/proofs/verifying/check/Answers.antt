use Rattle.std.proofs.Common.{rules}
use Rattle.oth_book.proofs.verifying.check.Goals as goal

pub check_by-requires-clause-board : goal.check_by-requires-clause-board
check_by-requires-clause-board c = search rules

pub returns-clause-ok : goal.returns-clause-ok
returns-clause-ok c = search rules

pub returns-then-eq-2-clause-ok : goal.returns-then-eq-2-clause-ok
returns-then-eq-2-clause-ok c = search rules
