use Rattle.std.proofs.Common.{◌≡◌, length, vec_len, vec_capacity}
use Rattle.oth_pieces.specs.Hands.{IsThiefOf}
use Rattle.oth_pieces.proofs.Handouts.{Zipped}
use Rattle.oth_pieces.proofs.tasks.dealing.thieves_of.Given as goal

abbrev pub invariant-loop-owner : goal.invariant-loop-owner
invariant-loop-owner l = (vec_len l.thieves ≡ l.owner-index) × (vec_capacity l.thieves ≡ length l.owners) × Zipped IsThiefOf l.owners l.thieves.items
