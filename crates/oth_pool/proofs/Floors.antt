-- A floor is a score from the beginning.
use Rattle.std.proofs.Common.{ℤ, negsuc, ◌≤ℤ◌, List, [], ◌∷◌, arith}
use Rattle.std.specs.Int.{int_max}
use Rattle.std.proofs.lemmas.Int.{ints, clamps}
use Rattle.oth_pieces.specs.declared.floor.event.Event.{Event}
use Rattle.oth_pieces.specs.declared.floor.event.Event.TheVariants.{Raise, Made}
use Rattle.oth_pieces.specs.History.{floor_after}

as_high : (x y v : ℤ) → v ≤ℤ y → v ≤ℤ int_max x y
as_high x y v a = omega (arith, ints, clamps)

pub least_floor : (h : List Event) → negsuc 63 ≤ℤ floor_after h
least_floor [] = omega (arith, ints)
least_floor (Raise by y ∷ h) = as_high y (floor_after h) (negsuc 63) (least_floor h)
least_floor (Made by n ∷ h) = least_floor h
