use Rattle.std.proofs.Common.{◌≡◌, ◌+◌, ◌≤◌, map, length, vec_len}
use Rattle.std.specs.Prelude.{vec_capacity}
use Rattle.std.specs.List.{All}
use Rattle.oth_pool.specs.Working.{Holds}
use Rattle.oth_pool.proofs.work.duties_of.Given as goal

abbrev pub invariant-loop-hand : goal.invariant-loop-hand
invariant-loop-hand g l =
    (map (λ j. j.work.hand) l.duties.items ≡ l.yielded) × All (λ j. Holds l.search.frontier.now l.search.scoring j.work) l.duties.items
    × (vec_len l.workers + length l.yielded ≡ vec_len l.fn.hands)
    × (vec_len l.duties ≡ length l.yielded) × (vec_len l.fn.hands ≤ vec_capacity l.duties)
