use Rattle.std.proofs.Common.{◌≡◌, ◌<◌, ℕ, length}
use Rattle.std.specs.Prelude.{slice_index_or}
use Rattle.oth_rules.specs.declared.scoring.Scoring.{Scoring}
use Rattle.oth_rules.specs.Position.{Position}
use Rattle.oth_search.specs.Root.Scores.{AreScores}
use Rattle.oth_c.specs.Scores.{no_score, score_at}
use Rattle.oth_c.proofs.scores.by_square.Given as goal

abbrev pub invariant-loop-number : goal.invariant-loop-number
invariant-loop-number l = (length l.scores ≡ 64) × ((p : Position) (g : Scoring) → AreScores p g l.moves → (s : ℕ) → s < l.number → slice_index_or l.scores s no_score ≡ score_at p g s)
