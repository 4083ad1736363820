use Rattle.std.proofs.Common.{inr}
use Rattle.oth_c.proofs.within.first_of.Goals as goal

pub returns-in-Some : goal.returns-in-Some
returns-in-Some c = inr (c.in-Some.root_move, rw c.in-Some.is at c.surest_of.ensures, c.number.ensures.value)
