-- The scores of a board's moves as C has them.
--     no_score      what stands at a square that is no legal move: -128
--     score_at p g s      the value after a legal move to the square, seen from who moves, or no_score
--     StandAt p g scores      at each of the 64 squares stands its score
--     AreMoveScores p g x      the answer, the legal squares and the scores of the position p by the scoring g
--     TellsScores x b s      s has the board's scores by the scoring of the seat's table
--     IsBoundedAt p g s lower upper      the bounds enclose what a legal move to the square gives; else both are no_score
--     IsFirst p lower s      s is 64 exactly where there is no move, else a legal square, and no move has a greater lower bound
--     AreKnown p g k      k has true bounds of the position p, its legal squares, true bounds of its moves, and one of these first
--     TellsKnown x b k      k has what is known of the board and its moves by the scoring of the seat's table
--     AreTold ms lower upper      at each square stand the bounds of the listed move to it, or no_score where none is
--     IsFirstOf ms s      s is the square of the surest move of the list, or 64 where the list is empty
use Rattle.std.specs.Prelude.{◌≡◌, ◌≢◌, ◌⊎◌, ◌↔◌, ℕ, ℤ, negsuc, neg_ℤ, ◌<◌, ◌≤◌, ◌≤ℤ◌, true, false, if◌then◌else◌}
use Rattle.std.specs.Prelude.{List, [], slice_index_or, Option, Some, None}
use Rattle.std.specs.List.{All, Contains}
use Rattle.oth_rules.specs.declared.scoring.Scoring.{Scoring}
use Rattle.oth_rules.specs.Square.{word_of}
use Rattle.oth_rules.specs.Position.{Position, empty_count}
use Rattle.oth_rules.specs.Move.{is_legal, can_move, after}
use Rattle.oth_rules.specs.Score.{score_of}
use Rattle.oth_rules.specs.Value.{value}
use Rattle.oth_search.specs.Bounds.Interval.{IsInterval, Encloses}
use Rattle.oth_search.specs.Root.Moves.{IsSurest, known_least}
use Rattle.oth_search.specs.declared.root.moves.RootMove.{RootMove}
use Rattle.oth_table.specs.Parts.{Use}
use Rattle.oth_c.specs.declared.board.OthBoard.{OthBoard}
use Rattle.oth_c.specs.declared.scores.OthScores.{OthScores}
use Rattle.oth_c.specs.declared.within.OthKnown.{OthKnown}
use Rattle.oth_c.specs.Answers.{IsAnswer}
use Rattle.oth_c.specs.Boards.{overlaps, position}

abbrev pub no_score : ℤ
no_score = negsuc 127

abbrev pub score_at : Position → Scoring → ℕ → ℤ
score_at p g s = if is_legal p s then neg_ℤ (value (score_of g) (after p s)) else no_score

abbrev pub StandAt : Position → Scoring → List ℤ → Type 0
StandAt p g scores = (s : ℕ) → s < 64 → slice_index_or scores s no_score ≡ score_at p g s

pub record AreMoveScores (p : Position) (g : Scoring) (x : OthScores) : Type 0 where
  pub answer : IsAnswer p g x.answer
  pub moves : x.moves ≡ word_of (is_legal p)
  pub scores : StandAt p g x.scores

abbrev pub TellsScores : Option Use → OthBoard → OthScores → Type 0
TellsScores None b s = ⊥
TellsScores (Some u) b s = (overlaps b ≡ false) × (empty_count (position b) ≤ 30) × AreMoveScores (position b) u.table.terms.scoring s

abbrev pub IsBoundedAt : Position → Scoring → ℕ → ℤ → ℤ → Type 0
IsBoundedAt p g s lower upper =
    (is_legal p s ≡ true → Encloses lower upper (neg_ℤ (value (score_of g) (after p s))))
    × (is_legal p s ≡ false → (lower ≡ no_score) × (upper ≡ no_score))

abbrev pub AreBounded : Position → Scoring → List ℤ → List ℤ → Type 0
AreBounded p g lower upper = (s : ℕ) → s < 64 → IsBoundedAt p g s (slice_index_or lower s no_score) (slice_index_or upper s no_score)

pub record IsFirst (p : Position) (lower : List ℤ) (first : ℕ) : Type 0 where
  pub none : (first ≡ 64) ↔ (can_move p ≡ false)
  pub legal : can_move p ≡ true → is_legal p first ≡ true
  pub most : (s : ℕ) → s < 64 → is_legal p s ≡ true → slice_index_or lower s no_score ≤ℤ slice_index_or lower first no_score

pub record AreKnown (p : Position) (g : Scoring) (k : OthKnown) : Type 0 where
  pub interval : IsInterval k.bounds.lower k.bounds.upper
  pub encloses : Encloses k.bounds.lower k.bounds.upper (value (score_of g) p)
  pub moves : k.moves ≡ word_of (is_legal p)
  pub first : IsFirst p k.lower k.first
  pub bounded : AreBounded p g k.lower k.upper

abbrev pub TellsKnown : Option Use → OthBoard → OthKnown → Type 0
TellsKnown None b k = ⊥
TellsKnown (Some u) b k = (overlaps b ≡ false) × (empty_count (position b) ≤ 30) × AreKnown (position b) u.table.terms.scoring k

-- the bounds at a square are those of a listed move to it
pub record IsListedAt (ms : List RootMove) (s : ℕ) (lower upper : ℤ) : Type 0 where
  pub move : RootMove
  pub listed : Contains ms move
  pub square : move.square ≡ s
  pub least : lower ≡ known_least move
  pub most : upper ≡ neg_ℤ move.child.interval.lower

-- or no move to it is listed
pub record IsUnlistedAt (ms : List RootMove) (s : ℕ) (lower upper : ℤ) : Type 0 where
  pub others : All (λ m. m.square ≢ s) ms
  pub least : lower ≡ no_score
  pub most : upper ≡ no_score

pub record IsToldAt (ms : List RootMove) (s : ℕ) (lower upper : ℤ) : Type 0 where
  pub told : IsListedAt ms s lower upper ⊎ IsUnlistedAt ms s lower upper

abbrev pub AreTold : List RootMove → List ℤ → List ℤ → Type 0
AreTold ms lower upper = (s : ℕ) → s < 64 → IsToldAt ms s (slice_index_or lower s no_score) (slice_index_or upper s no_score)

abbrev pub IsFirstOf : List RootMove → ℕ → Type 0
IsFirstOf ms s = ((ms ≡ []) × (s ≡ 64)) ⊎ ((m : RootMove) × IsSurest ms m × (s ≡ m.square))
