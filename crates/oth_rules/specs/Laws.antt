-- Words for the laws of moves and values.
--     IsLegal p s      a move to s is legal
--     IsScore z, IsEven z      z is a number that a score can be; is even
--     IsValueByMoves, IsValueByPass, IsValueAtEnd      the value by the textbook's three cases
--     IsValueOfImages      the value and the best moves of an image
use Rattle.std.specs.Prelude.{◌≡◌, ℕ, ◌<◌, true, false, ℤ, pos, negsuc, neg_ℤ, ◌+ℤ◌, ◌≤ℤ◌}
use Rattle.oth_rules.specs.Square.{word_of}
use Rattle.oth_rules.specs.Position.{Position, pass}
use Rattle.oth_rules.specs.Move.{is_legal, can_move, after}
use Rattle.oth_rules.specs.Value.{value, is_best}
use Rattle.oth_rules.specs.Symmetry.{image, map_word}

-- a move to the square is legal
pub record IsLegal (p : Position) (s : ℕ) : Type 0 where
  pub on_board : s < 64
  pub legal : is_legal p s ≡ true

-- an even whole number
pub record IsEven (z : ℤ) : Type 0 where
  pub half : ℤ
  pub is_double : z ≡ half +ℤ half

-- a number that a score can be
pub record IsScore (z : ℤ) : Type 0 where
  pub low : negsuc 63 ≤ℤ z
  pub high : z ≤ℤ pos 64

-- ---- the value by the textbook's three cases, whatever a finished game is worth

-- where the mover can move, no legal move gives more than the value, and one gives it
pub record IsValueByMoves (score : Position → ℤ) : Type 0 where
  pub bound : (p : Position) (s : ℕ) → IsLegal p s → neg_ℤ (value score (after p s)) ≤ℤ value score p
  pub reached : (p : Position) → can_move p ≡ true → (s : ℕ) × IsLegal p s × (value score p ≡ neg_ℤ (value score (after p s)))

-- where only the other side can move, the value is the negated value after the pass
abbrev pub IsValueByPass : (Position → ℤ) → Type 0
IsValueByPass score = (p : Position) → can_move p ≡ false → can_move (pass p) ≡ true → value score p ≡ neg_ℤ (value score (pass p))

-- where neither can move, the value is the score
abbrev pub IsValueAtEnd : (Position → ℤ) → Type 0
IsValueAtEnd score = (p : Position) → can_move p ≡ false → can_move (pass p) ≡ false → value score p ≡ score p

-- along each of the eight symmetries the value stays, and a square is best where its image was
pub record IsValueOfImages (score : Position → ℤ) : Type 0 where
  pub value : (s : ℕ) (p : Position) → s < 8 → value score (image s p) ≡ value score p
  pub best : (s : ℕ) (p : Position) → s < 8 → word_of (is_best score (image s p)) ≡ map_word s (word_of (is_best score p))
