use Rattle.std.proofs.Common.{vec_len}
use Rattle.oth_pieces.proofs.Handouts.{Making}
use Rattle.oth_pieces.proofs.tasks.dealing.hands_of.Given as goal

abbrev pub invariant-loop-owner : goal.invariant-loop-owner
invariant-loop-owner l = Making l.tasks l.owners.items l.piles.items l.hands.items

abbrev pub decreases-loop-owner : goal.decreases-loop-owner
decreases-loop-owner l = vec_len l.owners
