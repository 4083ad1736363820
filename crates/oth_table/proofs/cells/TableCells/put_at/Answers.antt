use Rattle.std.proofs.Common.{subst}
use Rattle.oth_table.specs.SharedTable.{Puts}
use Rattle.oth_table.specs.Parts.{Use}
use Rattle.oth_table.proofs.cells.TableCells.put_at.Goals as goal

pub returns-clause-put : goal.returns-clause-put
returns-clause-put c = subst (λ (z : Use). Puts z.seat.terms z.seat.name z.seat.seen c.put.new.seat.seen c.args.cell c.args.entry.now c.put.result) c.self.view_is c.put.ensures.place
