use Rattle.oth_pieces.proofs.Dealings.{gathers}
use Rattle.oth_pieces.proofs.tasks.balance.take_in.Goals as goal

pub absorb-requires-clause-rule : goal.absorb-requires-clause-rule
absorb-requires-clause-rule c = gathers _ _ _ _
