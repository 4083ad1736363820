use Rattle.std.proofs.Common.{rules}
use Rattle.othsolve.proofs.asked.words.Goals as goal

pub returns-in-Err-print : goal.returns-in-Err-print
returns-in-Err-print g c = search rules
