-- A seat that never made another. It is the first, and whatever it has seen is its own.
--     IsAlone h         the history h has no event but those of the first seat, which made no other and has no claim
--     LooksAlone, PutsAlone, CountsAlone      no call of that seat meets another, and it stays alone
--     SearchesAlone, StoresAlone      neither does a search that uses the table by that seat
use Rattle.std.specs.Prelude.{◌≡◌, ◌≢◌, ℕ, List, [], ◌∷◌, Option, None}
use Rattle.oth_rules.specs.Position.{Position}
use Rattle.oth_table.specs.declared.history.Terms.{Terms}
use Rattle.oth_history.specs.History.{Since}
use Rattle.oth_table.specs.History.{owner, author, IsLegal}
use Rattle.oth_table.specs.SharedTable.{Looks, Puts}
use Rattle.oth_table.specs.Pairs.{LooksFor, PutsFor}
use Rattle.oth_table.specs.Parts.{Use}
use Rattle.oth_search.specs.Bounds.Entry.{Bounded}
use Rattle.oth_table.specs.declared.history.Event.{Event}
use Rattle.oth_table.specs.declared.history.Event.TheVariants.{Made}
use Rattle.oth_table.specs.declared.table.Look.{Look}
use Rattle.oth_table.specs.declared.table.Look.TheVariants.{Busy}
use Rattle.oth_table.specs.declared.table.Put.{Put}
use Rattle.oth_table.specs.declared.table.Put.TheVariants.{Skipped}

-- no event but those of the first seat, which made no other
abbrev pub IsOwn : List Event → Type 0
IsOwn [] = Unit {0}
IsOwn (Made s t ∷ h) = ⊥
IsOwn (e ∷ h) = (author e ≡ 0) × IsOwn h

abbrev pub IsAlone : List Event → Type 0
IsAlone h = IsOwn h × ((c : ℕ) → owner c h ≡ None)

-- a look of a seat that is alone isn't busy, and leaves it alone
abbrev pub LooksAlone : Type 0
LooksAlone = (terms : Terms) (c : ℕ) (earlier later : List Event) (found : Look)
    → IsAlone earlier → Looks terms 0 earlier later c found → IsAlone later × (found ≢ Busy)

-- a put of a seat that is alone isn't skipped, and leaves it alone
abbrev pub PutsAlone : Type 0
PutsAlone = (terms : Terms) (c : ℕ) (earlier later : List Event) (given : Bounded) (did : Put)
    → IsAlone earlier → Puts terms 0 earlier later c given did → IsAlone later × (did ≢ Skipped)

-- a seat that is alone and asks how often a cell was published sees nothing new
abbrev pub CountsAlone : Type 0
CountsAlone = (terms : Terms) (earlier later : List Event)
    → IsAlone earlier → IsLegal terms later → Since author 0 earlier later → IsAlone later

-- the cells of a search, used by the first seat, which is alone
pub record IsUsedAlone (u : Use) : Type 0 where
  pub first : u.seat.name ≡ 0
  pub alone : IsAlone u.seat.seen

-- a search that looks for a board finds neither cell busy
abbrev pub SearchesAlone : Type 0
SearchesAlone = (u v : Use) (p : Position) (answer : Option Bounded)
    → IsUsedAlone u → (looks : LooksFor u v p answer) → IsAlone v.seat.seen × (looks.first ≢ Busy) × (looks.other ≢ Busy)

-- nor does one that stores, and its put isn't skipped
abbrev pub StoresAlone : Type 0
StoresAlone = (u v : Use) (given : Bounded)
    → IsUsedAlone u → (puts : PutsFor u v given) → IsAlone v.seat.seen × (puts.first ≢ Busy) × (puts.other ≢ Busy) × (puts.did ≢ Skipped)
