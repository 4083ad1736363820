use Rattle.std.proofs.Common.{rules}
use Rattle.oth_c.proofs.answer.kind_number.Goals as goal

pub returns-in-Pass : goal.returns-in-Pass
returns-in-Pass c = search rules
