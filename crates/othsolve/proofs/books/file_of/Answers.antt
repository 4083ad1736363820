use Rattle.std.proofs.Common.{rules}
use Rattle.othsolve.proofs.books.file_of.Goals as goal

pub returns-in-Err-clause-told : goal.returns-in-Err-clause-told
returns-in-Err-clause-told g c = search rules

pub returns-in-Err-2-clause-statuses : goal.returns-in-Err-2-clause-statuses
returns-in-Err-2-clause-statuses g c = search rules
