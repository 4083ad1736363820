-- What each kind of step tells the seat that makes it. v is its view before the step, r what the step found, and w its view after it.
--     glanced, aimed           the first load of a look, and of a put
--     read, found_under        the load of an entry's word, and the same under the claim
--     checked                  the second load of the version
--     claimed                  the attempt to claim a cell
--     stored, published        the store of a word under the claim, and of the version that ends it
--     made                     the load after which a seat is made
--     caught_up, followed, counted      loads by which a seat sees more
use Rattle.std.specs.Prelude.{◌≡◌, ◌≢◌, ℕ, zero, ◌+◌, ◌-◌, ◌/◌, ◌%◌, ◌<◌, ◌≤◌, slice_index, Option, Some, None}
use mathlib.Core.Option.{some}
use Rattle.atomic_table.specs.Table.{Step, Me}
use Rattle.oth_rules.specs.declared.scoring.Scoring.{Scoring}
use Rattle.oth_search.specs.Bounds.Entry.{Bounded, words_of, joined}
use Rattle.oth_table.specs.Cells.{first_word}
use Rattle.oth_history.specs.History.{Name, Begins, Since}
use Rattle.oth_table.specs.History.{author, IsTrueBy, publishes, IsLegal, Ends, GoesAway}
use Rattle.oth_table.specs.declared.history.Why.{Why}
use Rattle.oth_table.specs.declared.history.Why.TheVariants.{Busy, Skipped, Worn}
use Rattle.oth_table.specs.declared.history.Event.{Event}
use Rattle.oth_table.specs.declared.history.Event.TheVariants.{Claim, Publish, Look, Away, Made}
use Rattle.oth_table.specs.declared.history.Stage.{Stage}
use Rattle.oth_table.specs.declared.history.Stage.TheVariants.{Idle, Reading, Writing, Making}
use Rattle.oth_table.specs.declared.history.View.{View}

abbrev pub Sat : Type 0
Sat = Me Bounded View

abbrev pub IsSameSeat : View → View → Type 0
IsSameSeat v w = (w.name ≡ v.name) × (w.terms ≡ v.terms)

-- the seat knows no later history than before
abbrev pub Stays : View → View → Type 0
Stays v w = IsSameSeat v w × (w.seen ≡ v.seen)

-- the event e ends what the seat has seen, and the seat has no claim and reads nothing
abbrev pub Did : View → View → Event → Type 0
Did v w e = IsSameSeat v w × (w.stage ≡ Idle) × Ends v.terms v.name v.seen w.seen e

abbrev pub WentAway : ℕ → Why → View → View → Type 0
WentAway c why v w = IsSameSeat v w × (w.stage ≡ Idle) × GoesAway v.terms v.name c why v.seen w.seen

-- the first load of a look, which found r
abbrev pub glanced : ℕ → View → ℕ → View → Type 0
glanced c v r w =
    (r ≡ 0 → Did v w (Look v.name c None)) × (r % 2 ≡ 1 → WentAway c Busy v w)
    × (0 < r → r % 2 ≡ 0 → Stays v w × ((x : Bounded) × (w.stage ≡ Reading c r r (Some x))))

-- the load of the i-th word, which is right if no version is known beyond the first
abbrev pub read : ℕ → View → Stage → ℕ → View → Type 0
read i v (Reading c at last (Some x)) r w =
    Stays v w × ((now : ℕ) × (w.stage ≡ Reading c at now (Some x)) × (now ≤ at → (last ≤ at) × (r ≡ slice_index (words_of x) i)))
read i v _ r w = Unit {0}

abbrev pub IsReading : ℕ → Stage → Type 0
IsReading c (Reading d at last (Some x)) = d ≡ c
IsReading c _ = ⊥

-- the second load of the version
abbrev pub checked : View → Stage → ℕ → View → Type 0
checked v (Reading c at last (Some x)) r w =
    (r ≡ at → (last ≤ at) × IsTrueBy v.terms.scoring x × Did v w (Look v.name c (Some x))) × (r ≢ at → WentAway c Busy v w)
checked v _ r w = Unit {0}

-- the first load of a put
abbrev pub aimed : ℕ → View → ℕ → View → Type 0
aimed c v r w =
    (r % 2 ≡ 1 → WentAway c Skipped v w) × (r % 2 ≡ 0 → v.terms.wear ≤ r / 2 → Did v w (Away v.name c Worn))
    × (r % 2 ≡ 0 → r / 2 < v.terms.wear → Stays v w × ((x : Option Bounded) × (w.stage ≡ Reading c r r x)))

-- what a claimed cell held, if anything was published in it
abbrev pub IsOld : Scoring → ℕ → Option Bounded → Type 0
IsOld g at None = at ≡ 0
IsOld g at (Some x) = (0 < at) × IsTrueBy g x

-- the seat has the claim of the cell, whose version was `at`, and has stored nothing yet
abbrev pub IsClaimed : Scoring → ℕ → ℕ → Bounded → Stage → Type 0
IsClaimed g c at given st =
    (old : Option Bounded) × IsOld g at old × (st ≡ Writing c (at + 1) old given 0) × IsTrueBy g (joined old given)
    × IsTrueBy g given

-- the claim ends what the seat has seen, and the seat has the claim
abbrev pub Claims : ℕ → ℕ → Bounded → View → View → Type 0
Claims c at given v w = IsSameSeat v w × IsClaimed v.terms.scoring c at given w.stage × Ends v.terms v.name v.seen w.seen (Claim v.name c)

abbrev pub claimed : ℕ → View → ℕ → Bounded → ℕ → View → Type 0
claimed c v at given r w = (r ≡ at → Claims c at given v w) × (r ≢ at → WentAway c Skipped v w)

abbrev pub MayReadClaimed : ℕ → Stage → Type 0
MayReadClaimed c (Writing d at (Some x) given zero) = d ≡ c
MayReadClaimed c _ = ⊥

abbrev pub MayStore : ℕ → ℕ → ℕ → Stage → Type 0
MayStore c i bits (Writing d at old given k) = (d ≡ c) × (k ≡ i) × (bits ≡ slice_index (words_of (joined old given)) i)
MayStore c i bits _ = ⊥

abbrev pub MayPublish : Scoring → ℕ → ℕ → Stage → Type 0
MayPublish g c next (Writing d at old given k) = (d ≡ c) × (k ≡ 3) × (next ≡ at + 1) × IsTrueBy g (joined old given)
MayPublish g c next _ = ⊥

abbrev pub WillKeep : Stage → Bounded → Type 0
WillKeep (Writing c at old given k) x = x ≡ joined old given
WillKeep _ x = ⊥

abbrev pub found_under : ℕ → View → Stage → ℕ → View → Type 0
found_under i v (Writing c at (Some x) given zero) r w = Stays v w × (w.stage ≡ v.stage) × (r ≡ slice_index (words_of x) i)
found_under i v _ r w = Unit {0}

abbrev pub stored : View → Stage → View → Type 0
stored v (Writing c at old given k) w = Stays v w × (w.stage ≡ Writing c at old given (k + 1))
stored v _ w = Unit {0}

abbrev pub published : View → Stage → View → Type 0
published v (Writing c at old given k) w = Did v w (Publish v.name c given (joined old given))
published v _ w = Unit {0}

-- a seat of some new name is about to be made
abbrev pub made : View → View → Type 0
made v w = IsSameSeat v w × ((name : Name) × (w.stage ≡ Making name) × Ends v.terms v.name v.seen w.seen (Made v.name name))

-- the seat has seen more, and has done nothing since
abbrev pub Sees : View → View → Type 0
Sees v w = IsSameSeat v w × (w.stage ≡ Idle) × IsLegal v.terms w.seen × Since author v.name v.seen w.seen

abbrev pub caught_up : View → View → Type 0
caught_up v w = Sees v w × Begins v.told w.seen

abbrev pub followed : View → View → Type 0
followed v w = Sees v w × (w.seen ≡ v.told)

abbrev pub counted : ℕ → View → ℕ → View → Type 0
counted c v r w = Sees v w × (publishes c w.seen ≡ r / 2)

module _ (st : Step Bounded) (m : Sat) (r : ℕ) (m' : Sat) where
  abbrev pub cell_of : ℕ
  cell_of = (st.word - first_word 0) / 4

  abbrev pub place_of : ℕ
  place_of = (st.word - first_word 0) % 4 - 1

  abbrev pub glance : Type 0
  glance = glanced cell_of m.0 r m'.0

  abbrev pub read_word : Type 0
  read_word = read place_of m.0 m.0.stage r m'.0

  abbrev pub check : Type 0
  check = checked m.0 m.0.stage r m'.0

  abbrev pub aim : Type 0
  aim = aimed cell_of m.0 r m'.0

  abbrev pub claim : Type 0
  claim = (given : Bounded) → st.said ≡ some given → claimed cell_of m.0 st.first given r m'.0

  abbrev pub read_under : Type 0
  read_under = found_under place_of m.0 m.0.stage r m'.0

  abbrev pub store_word : Type 0
  store_word = stored m.0 m.0.stage m'.0

  abbrev pub publish : Type 0
  publish = published m.0 m.0.stage m'.0

  abbrev pub make : Type 0
  make = made m.0 m'.0

  abbrev pub catch_up : Type 0
  catch_up = caught_up m.0 m'.0

  abbrev pub follow : Type 0
  follow = followed m.0 m'.0

  abbrev pub count : Type 0
  count = counted cell_of m.0 r m'.0
