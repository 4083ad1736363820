-- A history of a floor, which is of a root: a board and a scoring. The words of histories are oth_history's, of these events.
--     floor_after h        the greatest number raised in it, or -64
--     author e, makes e    the seat that did the event, and the seat that it makes
--     Fits root h e        the event raises the floor to no number above the value of the root
use Rattle.std.specs.Prelude.{ℤ, negsuc, ◌≤ℤ◌, List, [], ◌∷◌, Option, Some, None}
use Rattle.std.specs.Int.{int_max}
use Rattle.oth_history.specs.History.{Name, IsLegalBy, EndsBy}
use Rattle.oth_rules.specs.Score.{score_of}
use Rattle.oth_rules.specs.Value.{value}
use Rattle.oth_pieces.specs.declared.floor.root.Root.{Root}
use Rattle.oth_pieces.specs.declared.floor.event.Event.{Event}
use Rattle.oth_pieces.specs.declared.floor.event.Event.TheVariants.{Raise, Made}

abbrev pub floor_after : List Event → ℤ
floor_after [] = negsuc 63
floor_after (Raise by number ∷ h) = int_max number (floor_after h)
floor_after (Made by new ∷ h) = floor_after h

abbrev pub author : Event → Name
author (Raise by number) = by
author (Made by new) = by

-- the seat that the event makes
abbrev pub makes : Event → Option Name
makes (Raise by number) = None
makes (Made by new) = Some new

-- the root's value under its scoring
abbrev pub root_value : Root → ℤ
root_value root = value (score_of root.scoring) root.board

abbrev pub Fits : Root → List Event → Event → Type 0
Fits root h (Raise by number) = number ≤ℤ root_value root
Fits root h (Made by new) = Unit {0}

abbrev pub IsLegal : Root → List Event → Type 0
IsLegal root = IsLegalBy author makes (Fits root)

abbrev pub Ends : Root → Name → List Event → List Event → Event → Type 0
Ends root = EndsBy author makes (Fits root)
