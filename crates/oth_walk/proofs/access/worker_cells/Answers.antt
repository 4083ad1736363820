use Rattle.std.proofs.Common.{Option, Some, subst, sym}
use Rattle.oth_table.specs.Parts.{Use}
use Rattle.oth_walk.specs.Lending.{LendsTable}
use Rattle.oth_walk.proofs.Lendings.{LendsSeat-another}
use Rattle.oth_walk.proofs.access.worker_cells.Goals as goal

pub returns-in-Some : goal.returns-in-Some
returns-in-Some c =
    let P : Option Use → Type 0 = λ table. LendsTable table (Some c.another.new.self) in
    let another = c.another.ensures in
    let lends = LendsSeat-another c.in-Some.table c.another.new.self c.another.result another.table another.same another.made another.none in
    record { lends = subst P (sym c.in-Some.is) lends }
