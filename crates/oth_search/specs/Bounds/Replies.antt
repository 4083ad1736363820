-- What moves give.
--     ReplyAt score p s alpha r      the move is legal, and r bounds what it gives on its side of alpha
--     IsBackedUp g p left lower upper      the value is at least lower, and each move that is not left gives at most upper
use Rattle.std.specs.Prelude.{◌≡◌, ℕ, ℤ, neg_ℤ, ◌≤ℤ◌, false}
use Rattle.oth_rules.specs.declared.scoring.Scoring.{Scoring}
use Rattle.oth_rules.specs.Square.{has}
use Rattle.oth_rules.specs.Position.{Position}
use Rattle.oth_rules.specs.Move.{after}
use Rattle.oth_rules.specs.Score.{score_of}
use Rattle.oth_rules.specs.Value.{value}
use Rattle.oth_rules.specs.Laws.{IsLegal}
use Rattle.oth_search.specs.Bounds.Interval.{BoundsAt, IsInterval}
use Rattle.oth_search.specs.Bounds.Squares.{In}

pub record ReplyAt (score : Position → ℤ) (p : Position) (s : ℕ) (alpha r : ℤ) : Type 0 where
  pub legal : IsLegal p s
  pub bound : BoundsAt (neg_ℤ (value score (after p s))) alpha r

-- what is known of a position when all its legal moves are taken in but those left
pub record IsBackedUp (g : Scoring) (p : Position) (left : ℕ) (lower upper : ℤ) : Type 0 where
  pub interval : IsInterval lower upper
  pub legal : (s : ℕ) → In left s → IsLegal p s
  pub reached : lower ≤ℤ value (score_of g) p
  pub at_most : (s : ℕ) → IsLegal p s → has left s ≡ false → neg_ℤ (value (score_of g) (after p s)) ≤ℤ upper
