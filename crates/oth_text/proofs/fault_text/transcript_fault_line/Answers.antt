use Rattle.std.proofs.Common.{rules}
use Rattle.oth_text.proofs.fault_text.transcript_fault_line.Goals as goal

pub returns-in-Illegal-clause-text : goal.returns-in-Illegal-clause-text
returns-in-Illegal-clause-text c = search rules
