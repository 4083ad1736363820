-- The last few empty squares.
--     OneOf squares s      s is one of the squares
--     AreEmpty p squares      the squares are empty ones, each listed once
--     Leaves p squares      these squares are empty, and no other is
--     GivesAt score p s alpha r      r is no move, or bounds what the move to s gives on its side of alpha
--     MovesAt score p alpha r      r is no move, or bounds the value on its side of alpha
use Rattle.std.specs.Prelude.{◌≡◌, ◌⊎◌, ◌<◌, ℕ, true, false, ℤ, negsuc, ◌≤ℤ◌, ◌<ℤ◌, List, [], ◌∷◌}
use Rattle.oth_rules.specs.Position.{Position, is_empty}
use Rattle.oth_rules.specs.Move.{can_move}
use Rattle.oth_rules.specs.Laws.{IsLegal}
use Rattle.oth_rules.specs.Value.{value}
use Rattle.oth_search.specs.Bounds.Interval.{BoundsAt}
use Rattle.oth_search.specs.Bounds.Replies.{ReplyAt}

abbrev pub OneOf : List ℕ → ℕ → Type 0
OneOf [] s = ⊥
OneOf (x ∷ xs) s = (s ≡ x) ⊎ OneOf xs s

abbrev pub AreEmpty : Position → List ℕ → Type 0
AreEmpty p [] = Unit {0}
AreEmpty p (x ∷ xs) = (x < 64) × (is_empty p x ≡ true) × (OneOf xs x → ⊥) × AreEmpty p xs

pub record Leaves (p : Position) (squares : List ℕ) : Type 0 where
  pub only : (s : ℕ) → s < 64 → is_empty p s ≡ true → OneOf squares s
  pub each : AreEmpty p squares

-- one less than each score: there is no move
abbrev pub no_move : ℤ
no_move = negsuc 64

pub record GivesAt (score : Position → ℤ) (p : Position) (s : ℕ) (alpha r : ℤ) : Type 0 where
  pub low : no_move ≤ℤ r
  pub none : r ≡ no_move → IsLegal p s → ⊥
  pub some : no_move <ℤ r → ReplyAt score p s alpha r

pub record MovesAt (score : Position → ℤ) (p : Position) (alpha r : ℤ) : Type 0 where
  pub low : no_move ≤ℤ r
  pub none : r ≡ no_move → can_move p ≡ false
  pub can : no_move <ℤ r → can_move p ≡ true
  pub some : no_move <ℤ r → BoundsAt (value score p) alpha r
