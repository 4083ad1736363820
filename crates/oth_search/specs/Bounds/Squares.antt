-- Sets of squares, as words.
use Rattle.std.specs.Prelude.{◌≡◌, ◌≢◌, ℕ, ◌<◌, true, false}
use Rattle.oth_rules.specs.Square.{has}

-- the square is in the set
pub record In (set : ℕ) (square : ℕ) : Type 0 where
  pub on_board : square < 64
  pub member : has set square ≡ true

-- the set without one square
pub record Without (set : ℕ) (square : ℕ) (rest : ℕ) : Type 0 where
  pub taken : has rest square ≡ false
  pub others : (s : ℕ) → s < 64 → s ≢ square → has rest s ≡ has set s

-- the set and one square
pub record With (set : ℕ) (square : ℕ) (all : ℕ) : Type 0 where
  pub added : has all square ≡ true
  pub others : (s : ℕ) → s ≢ square → has all s ≡ has set s
