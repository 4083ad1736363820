use Rattle.std.proofs.Common.{rules}
use Rattle.oth_pieces.proofs.crew.is_crew.Goals as goal

pub returns : goal.returns
returns c = search rules
