-- What a search does to a table that gives each board two cells.
--     LooksBoth u later p f g      after the looks f at the place of p and g at its second cell the seat has seen `later`
--     LooksFor u v p answer        a look for the board p: both cells are looked at, and the entry of p is the answer, the first
--                                  cell's where both hold it
--     PutsFor u v given            a store: both cells are looked at, and one put is made, at the cell that is picked
-- In a table of one cell there is one look, which counts as both.
use Rattle.std.specs.Prelude.{◌≡◌, ◌≢◌, ℕ, List, Option}
use Rattle.std.specs.Option.{option_or}
use Rattle.oth_rules.specs.Position.{Position}
use Rattle.oth_search.specs.Bounds.Entry.{Bounded}
use Rattle.oth_table.specs.declared.history.Event.{Event}
use Rattle.oth_table.specs.declared.table.Look.{Look}
use Rattle.oth_table.specs.declared.table.Put.{Put}
use Rattle.oth_table.specs.SharedTable.{Looks, Puts}
use Rattle.oth_table.specs.Choices.{place_of, second_of, entry_in, picked_of}
use Rattle.oth_table.specs.Parts.{Use}

-- one look by the seat in use
abbrev pub LooksAt : Use → ℕ → List Event → List Event → Look → Type 0
LooksAt u c earlier later found = Looks u.seat.terms u.seat.name earlier later c found

-- one put by the seat in use
abbrev pub PutsAt : Use → ℕ → List Event → List Event → Bounded → Put → Type 0
PutsAt u c earlier later given did = Puts u.seat.terms u.seat.name earlier later c given did

-- the one look in a table of one cell
abbrev pub LooksOnce : Use → List Event → Position → Look → Look → Type 0
LooksOnce u later p first other = LooksAt u (place_of p 1) u.seat.seen later first × (other ≡ first)

-- the look at the place, and then the one at the second cell
abbrev pub LooksTwice : Use → List Event → Position → Look → Look → Type 0
LooksTwice u later p first other =
    (between : List Event)
    × LooksAt u (place_of p u.table.cells) u.seat.seen between first
    × LooksAt u (second_of p u.table.cells) between later other

abbrev pub LooksBoth : Use → List Event → Position → Look → Look → Type 0
LooksBoth u later p first other =
    (u.table.cells ≡ 1 → LooksOnce u later p first other) × (u.table.cells ≢ 1 → LooksTwice u later p first other)

pub record LooksFor (u v : Use) (p : Position) (answer : Option Bounded) : Type 0 where
  pub first : Look
  pub other : Look
  pub looks : LooksBoth u v.seat.seen p first other
  pub found : answer ≡ option_or (entry_in first p) (entry_in other p)

pub record PutsFor (u v : Use) (given : Bounded) : Type 0 where
  pub first : Look
  pub other : Look
  pub between : List Event
  pub looks : LooksBoth u between given.board first other
  pub did : Put
  pub put : PutsAt u (picked_of u.table.cells first other given.board) between v.seat.seen given did
