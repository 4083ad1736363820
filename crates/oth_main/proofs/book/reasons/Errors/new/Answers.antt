use Rattle.std.proofs.Common.{rules}
use Rattle.oth_main.proofs.book.reasons.Errors.new.Goals as goal

pub returns-clause-words : goal.returns-clause-words
returns-clause-words g c = search rules
