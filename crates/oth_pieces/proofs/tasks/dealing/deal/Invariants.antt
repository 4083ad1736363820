use Rattle.std.proofs.Common.{◌≡◌, ◌≤◌, ℕ, true, [], take, length}
use Rattle.crossbeam_deque.specs.Handles.{worker_view, worker_index, worker_capacity}
use Rattle.oth_pieces.specs.Dealing.{times}
use Rattle.oth_pieces.proofs.Turnings.{share_of}
use Rattle.oth_pieces.proofs.tasks.dealing.deal.Given as goal

abbrev pub invariant-loop-number : goal.invariant-loop-number
invariant-loop-number l =
    ((worker_view l.owner).pushes ≡ true) × ((worker_view l.owner).knows ≡ true) × ((worker_view l.owner).taken ≡ [])
    × (worker_index l.owner ≤ l.number-index) × (length l.turns.numbers.items ≤ worker_capacity l.owner)
    × ((x : ℕ) → times x (worker_view l.owner).put ≡ share_of l.hands l.deque (take l.number-index l.turns.numbers.items) x)
