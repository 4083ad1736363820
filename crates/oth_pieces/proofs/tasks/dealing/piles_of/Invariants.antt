use Rattle.std.proofs.Common.{◌≡◌, length, vec_len, vec_capacity}
use Rattle.std.specs.List.{All}
use Rattle.oth_pieces.specs.Hands.{OwnersFit, PileFits}
use Rattle.oth_pieces.proofs.tasks.dealing.piles_of.Given as goal

abbrev pub invariant-loop : goal.invariant-loop
invariant-loop l = (vec_len l.piles ≡ l.counter) × (vec_capacity l.piles ≡ length l.initial.owners) × OwnersFit l.tasks l.owners × All (PileFits l.tasks) l.piles.items
