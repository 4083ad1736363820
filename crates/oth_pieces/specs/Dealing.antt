-- The rule of a deque of numbers: what was put is what was taken and what the deque holds.
--     times x xs      how often x stands in the list
use Rattle.std.specs.Prelude.{◌≡◌, ℕ, ◌+◌, ◌≤◌, Bool, true, false, ◌==◌, List, [], ◌++◌}
use Rattle.std.specs.Prelude.{count_by, sum_by, Option, Some, None, option_to_list}
use mathlib.Core.Option.{some}
use lib.ListN.{get_elem?}
use Rattle.oth_pieces.specs.declared.tasks.share.Share.{Share}

abbrev pub times : ℕ → List ℕ → ℕ
times x xs = count_by (λ y. y == x) xs

-- how often all hands together took x from this deque
abbrev pub taken_in_all : ℕ → List Share → ℕ
taken_in_all x views = sum_by (λ v. times x v.taken) views

-- where a pass may push, no other knows what was put
abbrev pub Dealt : List ℕ → List Share → Type 0
Dealt items views =
    (put : List ℕ)
    × ((x : ℕ) → times x items + taken_in_all x views ≡ times x put)
    × ((port : ℕ) (v : Share) → get_elem? views port ≡ some v → v.knows ≡ true → v.put ≡ put)
    × ((port : ℕ) (v : Share) → get_elem? views port ≡ some v → v.pushes ≡ true → (j : ℕ) (u : Share) → get_elem? views j ≡ some u
    → u.knows ≡ true → j ≡ port)

abbrev pub share : Bool → Bool → List ℕ → List ℕ → Share
share pushes knows put taken = record { pushes = pushes; knows = knows; put = put; taken = taken }

-- the owner at the start
abbrev pub owner : Share
owner = share true true [] []

-- a pass that knows nothing and has taken nothing
abbrev pub stranger : Share
stranger = share false false [] []

abbrev pub puts : Share → List ℕ → Share → Type 0
puts v xs w = w ≡ record v { put = v.put ++ xs }

-- none was taken more often than it was put
abbrev pub IsFair : Share → Type 0
IsFair v = (x : ℕ) → times x v.taken ≤ times x v.put

abbrev pub takes : Share → List ℕ → Share → Type 0
takes v xs w = (w ≡ record v { taken = v.taken ++ xs }) × IsFair w

-- from the first split on nobody pushes
abbrev pub owner_of : Share → Share
owner_of v = record v { pushes = false }

abbrev pub thief_of : Share → Share
thief_of v = share false v.knows v.put []

abbrev pub both : Share → Share → Share
both v w = record v { taken = v.taken ++ w.taken }

-- the number found is one that was put
abbrev pub IsBacked : Share → Option ℕ → Type 0
IsBacked w None = Unit {0}
IsBacked w (Some x) = IsFair w

-- the number found was taken, if there is one
abbrev pub Took : Share → Share → Option ℕ → Type 0
Took v w found = (w ≡ record v { taken = v.taken ++ option_to_list found }) × IsBacked w found
