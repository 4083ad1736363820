use Rattle.std.proofs.Common.{rules}
use Rattle.oth_uses.proofs.game.board_after.Goals as goal

pub returns-in_err-position-clause-fault : goal.returns-in_err-position-clause-fault
returns-in_err-position-clause-fault c = search rules
