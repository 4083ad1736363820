use Rattle.std.proofs.Common.{rules}
use Rattle.oth_main.proofs.book.addition.Addition.solver.Goals as goal

pub returns : goal.returns
returns g c = search rules
