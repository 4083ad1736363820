-- Answers as C has them.
--     scoring_of n      the scoring of a number: 0 winner, 1 discs
--     kind_number k      what the mover does: 0 moves, 1 passes, 2 the game is over
--     IsAnswer p g a      the value, all best moves and the kind of the position p under the scoring g
use Rattle.std.specs.Prelude.{◌≡◌, ℕ, ◌==◌, if◌then◌else◌}
use Rattle.oth_rules.specs.declared.scoring.Scoring.{Scoring}
use Rattle.oth_rules.specs.declared.scoring.Scoring.TheVariants.{Winner, Discs}
use Rattle.oth_rules.specs.Square.{word_of}
use Rattle.oth_rules.specs.Position.{Position}
use Rattle.oth_rules.specs.Score.{score_of}
use Rattle.oth_rules.specs.Value.{value, is_best}
use Rattle.oth_search.specs.declared.bounds.kind.Kind.{Kind}
use Rattle.oth_search.specs.declared.bounds.kind.Kind.TheVariants.{Move, Pass, End}
use Rattle.oth_search.specs.Bounds.Answer.{kind_of}
use Rattle.oth_c.specs.declared.answer.OthAnswer.{OthAnswer}

abbrev pub scoring_of : ℕ → Scoring
scoring_of n = if n == 0 then Winner else Discs

abbrev pub kind_number : Kind → ℕ
kind_number Move = 0
kind_number Pass = 1
kind_number End = 2

pub record IsAnswer (p : Position) (g : Scoring) (a : OthAnswer) : Type 0 where
  pub score : a.score ≡ value (score_of g) p
  pub best : a.best ≡ word_of (is_best (score_of g) p)
  pub kind : a.kind ≡ kind_number (kind_of p)
