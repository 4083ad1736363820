use Rattle.std.proofs.Common.{rules}
use Rattle.oth_c.proofs.refusal.Refusal.code.Goals as goal

pub returns-in-Square : goal.returns-in-Square
returns-in-Square c = search rules
