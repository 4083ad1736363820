use Rattle.std.proofs.Common.{◌≡◌, length, vec_capacity}
use Rattle.oth_pieces.proofs.Handouts.{Handing}
use Rattle.oth_pieces.proofs.tasks.dealing.passes_of.Given as goal

abbrev pub invariant-loop-i : goal.invariant-loop-i
invariant-loop-i l = (vec_capacity l.passes ≡ length l.initial.owners) × Handing l.initial.owners l.owners l.passes.items l.i
