-- What the calls of a table promise.
--     IsWear wear          a cell may be published that often: 1 to 2^63 - 1
--     Refuses cells wear e what holds where a table is refused
--     Opens                a new table with a seat that has seen nothing
--     IsSeatOf t s         the seat s is one of the table t
--     IsSame s t           it is the same seat of the same table, whatever it has seen
--     Looks, Puts          the place of a look and of a put in the one history
--     IsFoundBy g found    a found entry is under the scoring g
--     Makes s t new        the seat s, now t, made the seat new
--     Meet s s' t t'       two seats have met
use Rattle.std.specs.Prelude.{◌≡◌, ℕ, ◌^◌, ◌<◌, List, [], Some, None}
use Rattle.oth_rules.specs.declared.scoring.Scoring.{Scoring}
use Rattle.oth_search.specs.Bounds.Entry.{Bounded}
use Rattle.oth_table.specs.declared.history.Terms.{Terms}
use Rattle.oth_history.specs.History.{Name, Since, HasNone}
use Rattle.oth_table.specs.History.{author, IsLegal, Ends, GoesAway}
use Rattle.oth_table.specs.declared.history.Event.{Event}
use Rattle.oth_table.specs.declared.history.Event.TheVariants.{Claim, Publish, Look as looked, Away, Made}
use Rattle.oth_table.specs.declared.history.Why as why
use Rattle.oth_table.specs.declared.table.Look.{Look}
use Rattle.oth_table.specs.declared.table.Look.TheVariants.{Empty, Whole, Busy}
use Rattle.oth_table.specs.declared.table.Put.{Put}
use Rattle.oth_table.specs.declared.table.Put.TheVariants.{Stored, Skipped, Worn}
use Rattle.oth_table.specs.declared.table.TableError.{TableError}
use Rattle.oth_table.specs.declared.table.TableError.TheVariants.{Cells, Memory, Wear}
use Rattle.oth_table.specs.Sizes.{IsSize}
use Rattle.oth_table.specs.Parts.{Shape, Sitting}

abbrev pub IsWear : ℕ → Type 0
IsWear wear = (0 < wear) × (wear < 2 ^ 63)

-- why a table is refused
abbrev pub Refuses : ℕ → ℕ → TableError → Type 0
Refuses cells wear Cells = ¬ IsSize cells
Refuses cells wear Wear = IsSize cells × ¬ IsWear wear
Refuses cells wear Memory = IsSize cells × IsWear wear

abbrev pub IsSeatOf : Shape → Sitting → Type 0
IsSeatOf t s = (s.table ≡ t.id) × (s.terms ≡ t.terms)

-- a new table, and a seat that has seen nothing
abbrev pub Opens : ℕ → ℕ → Scoring → Shape → Sitting → Type 0
Opens cells wear scoring t s =
    IsSize cells × IsWear wear × (t.cells ≡ cells) × (t.terms.wear ≡ wear) × (t.terms.scoring ≡ scoring)
    × IsSeatOf t s × (s.name ≡ 0) × (s.seen ≡ [])

abbrev pub IsSame : Sitting → Sitting → Type 0
IsSame s t = (t.table ≡ s.table) × (t.terms ≡ s.terms) × (t.name ≡ s.name)

-- the seat s had seen `earlier`, makes one call for the cell c, and then has seen `later`
module _ (terms : Terms) (s : Name) (earlier later : List Event) (c : ℕ) where
  -- the seat s had seen `earlier`, looks at the cell c with this outcome, and then has seen `later`
  abbrev pub Looks : Look → Type 0
  Looks Empty = Ends terms s earlier later (looked s c None)
  Looks (Whole x) = Ends terms s earlier later (looked s c (Some x))
  Looks Busy = GoesAway terms s c why.TheVariants.Busy earlier later

  -- as Looks, where it puts the given entry into the cell c
  abbrev pub Puts : Bounded → Put → Type 0
  Puts given Stored =
      (kept : Bounded)
      × (between : List Event)
      × Ends terms s earlier between (Claim s c)
      × Ends terms s between later (Publish s c given kept)
  Puts given Skipped = GoesAway terms s c why.TheVariants.Skipped earlier later
  Puts given Worn = Ends terms s earlier later (Away s c why.TheVariants.Worn)

-- an entry that was found is under this scoring
abbrev pub IsFoundBy : Scoring → Look → Type 0
IsFoundBy g (Whole x) = x.scoring ≡ g
IsFoundBy g _ = Unit {0}

-- the seat makes another, which has seen the same and has done nothing yet
pub record Makes (s t new : Sitting) : Type 0 where
  pub like : (new.table ≡ s.table) × (new.terms ≡ s.terms)
  pub ends : Ends s.terms s.name s.seen t.seen (Made s.name new.name)
  pub seen : new.seen ≡ t.seen
  pub idle : HasNone author new.name new.seen

-- both seats have seen the same legal history, which begins with what each had seen and has no further event of either
abbrev pub Meet : Sitting → Sitting → Sitting → Sitting → Type 0
Meet s s' t t' = (s'.seen ≡ t'.seen) × IsLegal s.terms s'.seen × Since author s.name s.seen s'.seen × Since author t.name t.seen t'.seen
