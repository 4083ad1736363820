-- What contracts see of a floor and of a seat.
--     Goes old new        what a call that is no event does to what its seat has seen
--     Adds old new e      what a call does that is one event of the history
use Rattle.std.specs.Prelude.{◌≡◌, List, []}
use Rattle.atomic_table.specs.Seated.{TableId}
use Rattle.oth_history.specs.History.{Name, HasNone, Since}
use Rattle.oth_pieces.specs.declared.floor.root.Root.{Root}
use Rattle.oth_pieces.specs.declared.floor.event.Event.{Event}
use Rattle.oth_pieces.specs.declared.floor.event.Event.TheVariants.{Made}
use Rattle.oth_pieces.specs.History.{author, IsLegal, Ends}

-- which floor it is, and the root that it is of
pub record Place : Type 0 where
  pub id : TableId
  pub root : Root

-- a seat of a floor: its name, and the history that it has seen
pub record Watcher : Type 0 where
  pub floor : TableId
  pub root : Root
  pub name : Name
  pub seen : List Event

abbrev pub IsSeatOf : Place → Watcher → Type 0
IsSeatOf f w = (w.floor ≡ f.id) × (w.root ≡ f.root)

-- it is the same seat, whatever it has seen
abbrev pub IsSame : Watcher → Watcher → Type 0
IsSame old new = (new.floor ≡ old.floor) × (new.root ≡ old.root) × (new.name ≡ old.name)

-- the seat has now seen a legal history, which begins with what it had seen and has no further event of it
pub record Goes (old new : Watcher) : Type 0 where
  pub same : IsSame old new
  pub legal : IsLegal old.root new.seen
  pub since : Since author old.name old.seen new.seen

-- as Goes, but for one further event of the seat, which is the last
pub record Adds (old new : Watcher) (e : Event) : Type 0 where
  pub same : IsSame old new
  pub ends : Ends old.root old.name old.seen new.seen e

abbrev pub first_seat : Place → Watcher
first_seat f = record { floor = f.id; root = f.root; name = 0; seen = [] }

-- a new seat, made by another, which has now seen as much. It has done nothing yet
pub record IsMadeBy (old new made : Watcher) : Type 0 where
  pub seen : (made.floor ≡ new.floor) × (made.root ≡ new.root) × (made.seen ≡ new.seen)
  pub event : Adds old new (Made old.name made.name)
  pub idle : HasNone author made.name made.seen
