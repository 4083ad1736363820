-- Stable discs: no move ever flips them.
--     StaysFor n p s      no move among the next n plies, passes counted, flips what stands on s
--     IsStable p s      whatever is played, no move flips what stands on s
--     AreStable p w      the squares of the word w have discs of theirs that are stable
--     IsLeftByStableDiscs p r      r is 64 less twice the number of some discs of theirs that are stable
--     Reaches p d set      the set has all squares that are in line with an empty one, along d or against it
--     Adds d square old new      new has what old has, and the squares in line with this one along d
--     IsReach p ..      each of the four words reaches what is in line with an empty square
--     is_backed d reached stable s      along the line of d, s is not reached from an empty square, or is at the edge of the
--         board, or has one beside it that is stable
use Rattle.std.specs.Prelude.{◌≡◌, ℕ, zero, suc, ◌*◌, ◌<◌, Bool, true, false, not, ◌&&◌, ◌||◌, ℤ, pos, ◌-ℤ◌, count_ones}
use Rattle.oth_rules.specs.Square.{Direction, Back, Stay, Forth, has, ray, is_in}
use Rattle.oth_rules.specs.Position.{Position, is_theirs, is_empty, pass}
use Rattle.oth_rules.specs.Move.{is_flipped, after}
use Rattle.oth_rules.specs.Line.{reversed, is_next}
use Rattle.oth_rules.specs.Laws.{IsLegal}

abbrev pub StaysFor : ℕ → Position → ℕ → Type 0
StaysFor zero p s = Unit {0}
StaysFor (suc n) p s = ((m : ℕ) → IsLegal p m → (is_flipped p m s ≡ false) × StaysFor n (after p m) s) × StaysFor n (pass p) s

abbrev pub IsStable : Position → ℕ → Type 0
IsStable p s = (n : ℕ) → StaysFor n p s

abbrev pub AreStable : Position → ℕ → Type 0
AreStable p w = (s : ℕ) → s < 64 → has w s ≡ true → (is_theirs p s ≡ true) × IsStable p s

-- kept folded, so that a proof looks into it only where it says so
unfoldable pub IsLeftByStableDiscs : Position → ℤ → Type 0
IsLeftByStableDiscs p r = (w : ℕ) × AreStable p w × (r ≡ pos 64 -ℤ pos (2 * count_ones w))

abbrev pub Reaches : Position → Direction → (ℕ → Bool) → Type 0
Reaches p d set =
    (e s : ℕ) → e < 64 → s < 64 → is_empty p e ≡ true → (is_in (ray d e) s || is_in (ray (reversed d) e) s) ≡ true → set s ≡ true

abbrev pub Adds : Direction → ℕ → ℕ → ℕ → Type 0
Adds d square old new =
    (s : ℕ) → s < 64 → (has old s || (is_in (ray d square) s || is_in (ray (reversed d) square) s)) ≡ true → has new s ≡ true

-- the words along a row, a falling diagonal, a column and a rising diagonal
pub record IsReach (p : Position) (row falling column rising : ℕ) : Type 0 where
  pub along_row : Reaches p (record { columns = Forth; rows = Stay }) (has row)
  pub along_falling : Reaches p (record { columns = Forth; rows = Forth }) (has falling)
  pub along_column : Reaches p (record { columns = Stay; rows = Forth }) (has column)
  pub along_rising : Reaches p (record { columns = Back; rows = Forth }) (has rising)

unfoldable pub is_backed : Direction → (ℕ → Bool) → (ℕ → Bool) → ℕ → Bool
is_backed d reached stable s =
    not (reached s && (is_next d (λ t. true) s && is_next (reversed d) (λ t. true) s))
    || (is_next d stable s || is_next (reversed d) stable s)
