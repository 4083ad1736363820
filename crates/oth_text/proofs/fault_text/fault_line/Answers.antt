use Rattle.std.proofs.Common.{rules}
use Rattle.oth_text.proofs.fault_text.fault_line.Goals as goal

pub returns-in-Empties-clause-text : goal.returns-in-Empties-clause-text
returns-in-Empties-clause-text c = search rules
