-- What a solved board is answered with.
--     IsFullMinimax p g a      the answer is of the position p under the scoring g: its value, all its best moves, and the kind
use Rattle.std.specs.Prelude.{◌≡◌}
use Rattle.oth_rules.specs.declared.scoring.Scoring.{Scoring}
use Rattle.oth_rules.specs.Square.{word_of}
use Rattle.oth_rules.specs.Position.{Position}
use Rattle.oth_rules.specs.Score.{score_of}
use Rattle.oth_rules.specs.Value.{value, is_best}
use Rattle.oth_search.specs.declared.bounds.answer.Answer.{Answer}
use Rattle.oth_search.specs.Bounds.Answer.{kind_of}

pub record IsFullMinimax (p : Position) (g : Scoring) (a : Answer) : Type 0 where
  pub board : a.board ≡ p
  pub scoring : a.scoring ≡ g
  pub score : a.score ≡ value (score_of g) p
  pub best : a.best ≡ word_of (is_best (score_of g) p)
  pub kind : a.kind ≡ kind_of p
