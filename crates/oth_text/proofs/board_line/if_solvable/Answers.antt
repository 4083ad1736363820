use Rattle.std.proofs.Common.{rules}
use Rattle.oth_text.proofs.board_line.if_solvable.Goals as goal

pub returns-clause-reading : goal.returns-clause-reading
returns-clause-reading c = search rules
