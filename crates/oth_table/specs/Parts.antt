-- A table and a seat, as contracts see them.
--     Shape      a table: its identity, its number of cells, its terms
--     Sitting    a seat at rest: its table, the table's terms, its name, what it has seen
--     Use        a table with a seat at it, as a search uses them
--     Fixed      what no call of these changes
use Rattle.std.specs.Prelude.{ℕ, List}
use Rattle.atomic_table.specs.Seated.{TableId}
use Rattle.oth_table.specs.declared.history.Terms.{Terms}
use Rattle.oth_history.specs.History.{Name}
use Rattle.oth_table.specs.declared.history.Event.{Event}

pub record Shape : Type 0 where
  pub id : TableId
  pub cells : ℕ
  pub terms : Terms

pub record Sitting : Type 0 where
  pub table : TableId
  pub terms : Terms
  pub name : Name
  pub seen : List Event

-- a table with a seat at it
pub record Use : Type 0 where
  pub table : Shape
  pub seat : Sitting

-- what no call of a table's cells changes
pub record Fixed : Type 0 where
  pub table : Shape
  pub home : TableId
  pub terms : Terms
  pub name : Name

-- what is fixed of a table with a seat at it: all but what the seat has seen
abbrev pub fixed_of : Use → Fixed
fixed_of u = record { table = u.table; home = u.seat.table; terms = u.seat.terms; name = u.seat.name }
