use Rattle.std.proofs.Common.{rules}
use Rattle.oth_book.proofs.verifying.check_by.Goals as goal

pub returns-clause-ok : goal.returns-clause-ok
returns-clause-ok c = search rules

pub returns-then-answer-claim-2-clause-cause : goal.returns-then-answer-claim-2-clause-cause
returns-then-answer-claim-2-clause-cause c = search rules
