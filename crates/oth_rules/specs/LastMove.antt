-- The only empty square.
--     IsLast p s      s is empty, and no other square is
--     gathered discs factor      the highest eight bits of a product of 64 bits
use Rattle.std.specs.Prelude.{◌≡◌, ◌<◌, ◌*◌, ◌/◌, ◌%◌, ◌^◌, ℕ, true}
use Rattle.oth_rules.specs.Position.{Position, is_empty}

pub record IsLast (p : Position) (s : ℕ) : Type 0 where
  pub on_board : s < 64
  pub empty : is_empty p s ≡ true
  pub only : (t : ℕ) → t < 64 → is_empty p t ≡ true → t ≡ s

abbrev pub gathered : ℕ → ℕ → ℕ
gathered discs factor = discs * factor % 2 ^ 64 / 2 ^ 56
