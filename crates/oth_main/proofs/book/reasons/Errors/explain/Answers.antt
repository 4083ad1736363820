use Rattle.std.proofs.Common.{rules}
use Rattle.oth_main.proofs.book.reasons.Errors.explain.Goals as goal

pub returns-in-Some-clause-no_reason : goal.returns-in-Some-clause-no_reason
returns-in-Some-clause-no_reason g c = search rules
