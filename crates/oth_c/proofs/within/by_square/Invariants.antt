use Rattle.std.proofs.Common.{◌≡◌, ◌<◌, ℕ, length}
use Rattle.std.specs.Prelude.{slice_index_or}
use Rattle.oth_c.specs.Scores.{no_score, IsToldAt}
use Rattle.oth_c.proofs.within.by_square.Given as goal

abbrev pub invariant-loop-number : goal.invariant-loop-number
invariant-loop-number l =
    (length l.lower ≡ 64)
    × (length l.upper ≡ 64)
    × ((s : ℕ) → s < l.number → IsToldAt l.moves s (slice_index_or l.lower s no_score) (slice_index_or l.upper s no_score))
