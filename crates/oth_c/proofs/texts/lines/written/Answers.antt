use Rattle.std.proofs.Common.{rules}
use Rattle.oth_c.proofs.texts.lines.written.Goals as goal

pub returns-in-Err-clause-err : goal.returns-in-Err-clause-err
returns-in-Err-clause-err c = search rules
