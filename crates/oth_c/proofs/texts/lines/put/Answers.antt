use Rattle.std.proofs.Common.{rules}
use Rattle.oth_c.proofs.texts.lines.put.Goals as goal

pub returns-then-buffer-text-clause-err : goal.returns-then-buffer-text-clause-err
returns-then-buffer-text-clause-err c = search rules
