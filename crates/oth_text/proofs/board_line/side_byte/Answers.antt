use Rattle.std.proofs.Common.{rules}
use Rattle.oth_text.proofs.board_line.side_byte.Goals as goal

pub returns-in-White : goal.returns-in-White
returns-in-White c = search rules
