use Rattle.std.proofs.Common.{rules}
use Rattle.oth_pieces.proofs.frontier.item_after.Goals as goal

pub returns : goal.returns
returns c = search rules
