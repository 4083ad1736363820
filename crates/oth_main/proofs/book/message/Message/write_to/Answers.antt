use Rattle.std.proofs.Common.{rules}
use Rattle.oth_main.proofs.book.message.Message.write_to.Goals as goal

pub returns-clause-written : goal.returns-clause-written
returns-clause-written g c = search rules
