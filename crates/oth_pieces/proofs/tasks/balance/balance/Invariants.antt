use Rattle.std.proofs.Common.{vec_len}
use Rattle.oth_pieces.proofs.Settlings.{Settling}
use Rattle.oth_pieces.proofs.tasks.balance.balance.Given as goal

abbrev pub invariant-loop-owner : goal.invariant-loop-owner
invariant-loop-owner l = Settling (vec_len l.initial.owners) l.initial.owners.items l.initial.piles l.owners.items l.piles

abbrev pub decreases-loop-owner : goal.decreases-loop-owner
decreases-loop-owner l = vec_len l.owners
