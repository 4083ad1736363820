use Rattle.std.proofs.Common.{rules}
use Rattle.oth_main.proofs.book.book_commands.book_verify.Goals as goal

pub returns-then-is_ok-clause-told : goal.returns-then-is_ok-clause-told
returns-then-is_ok-clause-told g c = search rules

pub returns-then-is_ok-clause-works : goal.returns-then-is_ok-clause-works
returns-then-is_ok-clause-works g c = search rules

pub returns-in-Ok-clause-verdict : goal.returns-in-Ok-clause-verdict
returns-in-Ok-clause-verdict g c = search rules
