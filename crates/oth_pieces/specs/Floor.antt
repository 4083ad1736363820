-- The rule of a floor, and what each step tells.
-- There is one legal history. The first two words are the root's own and opposing discs, the third is the floor after the
-- history, plus 64, and the fourth tells the scoring. What each seat has seen begins it, and has all events of that seat.
use Rattle.std.specs.Prelude.{◌≡◌, ℕ, ◌≤◌, pos, ◌-ℤ◌, true, false, ◌⊎◌, List, [], ◌∷◌, length, nat_le, if◌then◌else◌, Some, None, unwrap_or}
use mathlib.Core.Option.{some}
use lib.ListN.{get_elem?}
use Rattle.atomic_table.specs.Table.{State, Me, Step}
use Rattle.oth_history.specs.History.{Name, Begins, IsSeat, HasNone, Since}
use Rattle.oth_rules.specs.declared.scoring.Scoring.{Scoring}
use Rattle.oth_rules.specs.declared.scoring.Scoring.TheVariants.{Winner, Discs}
use Rattle.oth_pieces.specs.declared.floor.root.Root.{Root}
use Rattle.oth_pieces.specs.declared.floor.event.Event.{Event}
use Rattle.oth_pieces.specs.declared.floor.event.Event.TheVariants.{Raise, Made}
use Rattle.oth_pieces.specs.declared.floor.view.View.{View}
use Rattle.oth_pieces.specs.History.{makes, author, floor_after, IsLegal, Ends}

-- the seat has this name, or is about to give it
abbrev pub Has : View → Name → Type 0
Has v name = ((v.live ≡ true) × (v.name ≡ name)) ⊎ (v.spare ≡ Some name)

pub record Knows (root : Root) (log : List Event) (owner : Name → ℕ) (seat : ℕ) (v : View) : Type 0 where
  pub same_root : v.live ≡ true → v.root ≡ root
  pub seen : Begins v.seen log
  pub told : Begins v.told log
  pub apart : v.live ≡ true → ¬ (v.spare ≡ Some v.name)
  pub names : (name : Name) → Has v name → (owner name ≡ seat) × IsSeat makes log name × Since author name v.seen log

-- the word of a scoring
abbrev pub code_of : Scoring → ℕ
code_of Winner = 0
code_of Discs = 1

pub record IsKept (root : Root) (s : State ℕ View) : Type 0 where
  pub log : List Event
  pub owner : Name → ℕ
  pub third : ℕ
  pub legal : IsLegal root log
  pub words : s.words ≡ root.board.own ∷ root.board.opp ∷ third ∷ code_of root.scoring ∷ []
  pub height : floor_after log ≡ pos third -ℤ pos 64
  pub bound : third ≤ 128
  pub each : (seat : ℕ) (v : View) → get_elem? s.views seat ≡ some v → Knows root log owner seat v

abbrev pub newcomer : Root → View
newcomer root = record { root = root; name = 0; live = true; spare = None; seen = []; told = [] }

abbrev pub IsSameSeat : View → View → Type 0
IsSameSeat v w = (w.root ≡ v.root) × (w.name ≡ v.name) × (w.live ≡ v.live)

-- the seat has seen more, and has done nothing since
pub record Sees (v w : View) : Type 0 where
  pub same : IsSameSeat v w
  pub legal : IsLegal v.root w.seen
  pub since : Since author v.name v.seen w.seen

-- the event e ends what the seat has seen
pub record Did (v w : View) (e : Event) : Type 0 where
  pub same : IsSameSeat v w
  pub ends : Ends v.root v.name v.seen w.seen e

abbrev Sat : Type 0
Sat = Me ℕ View

abbrev pub Looked : Step ℕ → Sat → ℕ → Sat → Type 0
Looked s m found m' =
    Sees m.0 m'.0 × (m'.1 ≡ m.1) × (floor_after m'.0.seen ≡ pos found -ℤ pos 64) × (found ≤ 128)

abbrev pub Raised : Step ℕ → Sat → ℕ → Sat → Type 0
Raised s m found m' = Did m.0 m'.0 (Raise m.0.name (pos s.first -ℤ pos 64)) × (m'.1 ≡ m.1)

abbrev pub Named : Step ℕ → Sat → ℕ → Sat → Type 0
Named s m found m' =
    (name : Name) × Did m.0 m'.0 (Made m.0.name name) × (m'.0.spare ≡ Some name) × HasNone author name m'.0.seen × (m'.1 ≡ m.1)

-- the longer of two histories, one of which begins the other
abbrev pub longer : List Event → List Event → List Event
longer one other = if nat_le (length one) (length other) then other else one

-- the seat has now seen what it was told too
abbrev pub Learned : Step ℕ → Sat → ℕ → Sat → Type 0
Learned s m found m' =
    Sees m.0 m'.0 × (m'.0.seen ≡ longer m.0.seen m.0.told) × Begins m.0.told m'.0.seen × (m'.1 ≡ m.1)

abbrev pub parent_of : View → View
parent_of v = record v { spare = None }

abbrev pub child_of : View → View
child_of v = record { root = v.root; name = unwrap_or v.spare 0; live = true; spare = None; seen = v.seen; told = [] }

abbrev pub silent : Root → List Event → View
silent root seen = record { root = root; name = 0; live = false; spare = None; seen = seen; told = [] }

abbrev pub messenger_of : View → View
messenger_of v = silent v.root v.seen

abbrev pub told_by : View → View → View
told_by v w = record v { told = w.seen }

abbrev pub spent : View
spent = silent record { board = record { own = 0; opp = 0 }; scoring = Winner } []
