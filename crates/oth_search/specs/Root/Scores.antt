-- The scores of a board's moves.
--     IsScored p g m      the move is legal, and its score is the value after it, seen from who moves
--     AreScores p g ms      each legal move once, by rising squares, with its score
use Rattle.std.specs.Prelude.{◌≡◌, ℕ, neg_ℤ, List, map}
use Rattle.std.specs.List.{All}
use Rattle.oth_rules.specs.declared.scoring.Scoring.{Scoring}
use Rattle.oth_rules.specs.Position.{Position}
use Rattle.oth_rules.specs.Move.{legal_squares, after}
use Rattle.oth_rules.specs.Score.{score_of}
use Rattle.oth_rules.specs.Value.{value}
use Rattle.oth_rules.specs.Laws.{IsLegal}
use Rattle.oth_search.specs.declared.root.scores.ScoredMove.{ScoredMove}

-- where a move is played
abbrev pub place_of : ScoredMove → ℕ
place_of m = m.square

pub record IsScored (p : Position) (g : Scoring) (m : ScoredMove) : Type 0 where
  pub legal : IsLegal p m.square
  pub score : m.score ≡ neg_ℤ (value (score_of g) (after p m.square))

pub record AreScores (p : Position) (g : Scoring) (ms : List ScoredMove) : Type 0 where
  pub squares : map place_of ms ≡ legal_squares p
  pub scores : All (IsScored p g) ms
