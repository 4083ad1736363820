-- The numbers by which C knows what an export answered.
--     code_of r      the number of a refusal; 0 says that the call did what it was asked for
use Rattle.std.specs.Prelude.{ℕ}
use Rattle.oth_c.specs.declared.refusal.Refusal.{Refusal}
use Rattle.oth_c.specs.declared.refusal.Refusal.TheVariants as refusal

abbrev pub code_of : Refusal → ℕ
code_of refusal.Overlap = 1
code_of refusal.Square = 2
code_of refusal.Illegal = 3
code_of refusal.Scoring = 4
code_of refusal.Empties = 5
code_of refusal.Cells = 6
code_of refusal.Room = 7
code_of refusal.Mover = 8
code_of refusal.NoSeat = 31
code_of refusal.Taken = 32
code_of refusal.Memory = 33
