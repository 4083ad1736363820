use Rattle.std.proofs.Common.{◌≡◌, ◌≤◌, map, length, vec_len}
use Rattle.std.specs.Prelude.{vec_capacity}
use Rattle.oth_pool.proofs.work.hands_in.Given as goal

abbrev pub invariant-loop-duty : goal.invariant-loop-duty
invariant-loop-duty g l = (l.room.items ≡ map (λ j. j.work.hand) l.yielded) × (vec_len l.room ≡ length l.yielded) × (vec_len l.fn.duties ≤ vec_capacity l.room)
