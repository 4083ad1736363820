use Rattle.std.proofs.Common.{◌≡◌, ◌≤◌, length}
use Rattle.oth_pieces.specs.Drawn.{left_of}
use Rattle.oth_pieces.proofs.tasks.closing.left_of.Given as goal

abbrev pub invariant-loop-number : goal.invariant-loop-number
invariant-loop-number l = (l.left.items ≡ left_of l.number l.lists) × (length l.left.items ≤ l.number)
