use Rattle.std.proofs.Common.{rules}
use Rattle.oth_pieces.proofs.frontier.push_below.Goals as goal

pub returns-then-is_over : goal.returns-then-is_over
returns-then-is_over c = search rules
