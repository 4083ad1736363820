use Rattle.std.proofs.Common.{◌≡◌, length, vec_capacity}
use Rattle.oth_pieces.specs.Hands.{AreDealt}
use Rattle.oth_pieces.proofs.tasks.dealing.deques.Given as goal

abbrev pub invariant-loop-deque : goal.invariant-loop-deque
invariant-loop-deque l = (length l.owners.items ≡ l.deque) × (vec_capacity l.owners ≡ l.hands) × AreDealt l.hands (length l.turns.numbers.items) l.owners.items
