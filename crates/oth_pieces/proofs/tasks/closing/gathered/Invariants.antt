use Rattle.std.proofs.Common.{◌≡◌, ◌+◌, ◌≤◌, map, length, vec_len, vec_capacity}
use Rattle.oth_pieces.specs.declared.tasks.state.Hand.{Hand}
use Rattle.oth_pieces.proofs.tasks.closing.gathered.Given as goal

abbrev pub invariant-loop-hand : goal.invariant-loop-hand
invariant-loop-hand l =
    (l.owners.items ≡ map (λ (h : Hand). h.owner) l.yielded) × (l.piles.items ≡ map (λ (h : Hand). h.passes) l.yielded) × (l.lists.items ≡ map (λ (h : Hand). h.list) l.yielded)
    × (vec_len l.fn.hands + 1 ≤ vec_capacity l.owners) × (vec_len l.fn.hands + 1 ≤ vec_capacity l.piles) × (vec_len l.fn.hands + 1 ≤ vec_capacity l.lists)
    × (vec_len l.owners ≡ length l.yielded) × (vec_len l.piles ≡ length l.yielded) × (vec_len l.lists ≡ length l.yielded)
