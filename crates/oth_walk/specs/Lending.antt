-- What the making of seats for workers does to the caller's own seats: they stay what they were, and their histories go on.
--     OnlyMakes s earlier later      the further events of the seat s are makings of seats
--     LendsFloor old new      the seat of a floor: it only makes seats, and a legal history stays legal
--     LendsTable old new      the access to a table, if there is one: the same table, and the same seat of it, which does only that too
use Rattle.std.specs.Prelude.{◌≡◌, List, ◌++◌, Option, Some, None, All}
use Rattle.oth_history.specs.History.{Name, Begins, events_of}
use Rattle.oth_table.specs.Parts.{Use}
use Rattle.oth_table.specs.SharedTable.{IsSame}
use Rattle.oth_table.specs.History as tables
use Rattle.oth_pieces.specs.History.{author, makes, IsLegal}
use Rattle.oth_pieces.specs.Watch as floors
use Rattle.oth_pieces.specs.Watch.{Watcher}

module _ {E : Type 0} (author : E → Name) (makes : E → Option Name) where
  abbrev pub IsMaking : E → Type 0
  IsMaking e = (new : Name) × (makes e ≡ Some new)

  abbrev pub OnlyMakes : Name → List E → List E → Type 0
  OnlyMakes s earlier later = (made : List E) × (events_of author s later ≡ made ++ events_of author s earlier) × All IsMaking made

pub record LendsFloor (old new : Watcher) : Type 0 where
  pub same : floors.IsSame old new
  pub begins : Begins old.seen new.seen
  pub mine : OnlyMakes author makes old.name old.seen new.seen
  pub legal : IsLegal old.root old.seen → IsLegal old.root new.seen

pub record LendsSeat (old new : Use) : Type 0 where
  pub table : new.table ≡ old.table
  pub seat : IsSame old.seat new.seat
  pub begins : Begins old.seat.seen new.seat.seen
  pub mine : OnlyMakes tables.author tables.makes old.seat.name old.seat.seen new.seat.seen
  pub legal : tables.IsLegal old.seat.terms old.seat.seen → tables.IsLegal old.seat.terms new.seat.seen

abbrev pub LendsTable : Option Use → Option Use → Type 0
LendsTable None None = Unit {0}
LendsTable (Some old) (Some new) = LendsSeat old new
LendsTable _ _ = ⊥
