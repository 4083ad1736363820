use Rattle.std.proofs.Common.{rules}
use Rattle.oth_book.proofs.add.put_in.Goals as goal

pub returns-clause-new : goal.returns-clause-new
returns-clause-new c = search rules

pub returns-then-is_err-clause-full : goal.returns-then-is_err-clause-full
returns-then-is_err-clause-full c = search rules
