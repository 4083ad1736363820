use Rattle.std.proofs.Common.{rules}
use Rattle.oth_pieces.proofs.Dealings.{pushes}
use Rattle.oth_pieces.proofs.tasks.dealing.deal.Goals as goal

pub push_as-requires-clause-pushes : goal.push_as-requires-clause-pushes
push_as-requires-clause-pushes c = pushes _ _ _ c.loop-number.invariant.0 c.loop-number.invariant.1

pub loop-number-init : goal.loop-number-init
loop-number-init c = search rules
