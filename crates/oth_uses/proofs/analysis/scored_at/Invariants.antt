use Rattle.std.proofs.Common.{◌≢◌, ◌<◌, ℕ}
use Rattle.std.specs.Prelude.{slice_index_or}
use Rattle.oth_search.specs.declared.root.scores.ScoredMove.{ScoredMove}
use Rattle.oth_uses.proofs.analysis.scored_at.Given as goal

-- no move so far is to the square
abbrev pub invariant-loop-scored : goal.invariant-loop-scored
invariant-loop-scored l = (k : ℕ) (m : ScoredMove) → k < l.scored-index → (slice_index_or l.moves k m).square ≢ l.square
