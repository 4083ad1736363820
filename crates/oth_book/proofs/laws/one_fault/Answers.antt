use Rattle.oth_book.proofs.OneFault.{one_fault}
use Rattle.oth_book.proofs.laws.one_fault.Goals as goal

pub returns : goal.returns
returns c = one_fault
