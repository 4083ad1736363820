use Rattle.std.proofs.Common.{rules}
use Rattle.oth_text.proofs.report.push_moves.Goals as goal

pub returns-in-End : goal.returns-in-End
returns-in-End g c = search rules
