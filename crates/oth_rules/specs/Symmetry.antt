-- The eight symmetries of the board, by number.
--     map_square s q      where symmetry s carries square q
--     unmap_square s q      the square that symmetry s carries to q: bit 2 of s (value 4) changes column and row, then bit 0 turns the
--         columns round, then bit 1 the rows
--     map_word s w      the word with each of its squares carried
--     image s p      the position with each of its squares carried by symmetry s
--     canonical p      the least image
use Rattle.std.specs.Prelude.{ℕ, zero, suc, ◌+◌, ◌-◌, ◌*◌, ◌/◌, ◌%◌, if◌then◌else◌, nat_lt, ◌==◌, ◌&&◌, ◌||◌, ◌≡◌, ◌<◌, Bool, true, false}
use Rattle.oth_rules.specs.Square.{has, word_of}
use Rattle.oth_rules.specs.Position.{Position, cell, position_of}

-- the coordinate, turned round where this bit of the symmetry's number is set
unfoldable pub turned_if : ℕ → ℕ → ℕ → ℕ
turned_if s bit x = if has s bit then 7 - x else x

unfoldable pub map_square : ℕ → ℕ → ℕ
map_square s q =
    let x = if has s 2 then q / 8 else q % 8 in
    let y = if has s 2 then q % 8 else q / 8 in
    8 * turned_if s 1 y + turned_if s 0 x

unfoldable pub unmap_square : ℕ → ℕ → ℕ
unmap_square s q =
    let x = turned_if s 0 (q % 8) in
    let y = turned_if s 1 (q / 8) in
    8 * (if has s 2 then x else y) + (if has s 2 then y else x)

unfoldable pub map_word : ℕ → ℕ → ℕ
map_word s w = word_of (λ q. has w (unmap_square s q))

unfoldable pub unmap_word : ℕ → ℕ → ℕ
unmap_word s w = word_of (λ q. has w (map_square s q))

unfoldable pub image : ℕ → Position → Position
image s p = position_of (λ q. cell p (unmap_square s q))

-- ---- the canonical image

-- the mover's word of p is less than that of q, or they are equal and the opponent's word is less
unfoldable pub is_below : Position → Position → Bool
is_below p q = nat_lt p.own q.own || (p.own == q.own && nat_lt p.opp q.opp)

-- the lesser of the two positions, in this order
unfoldable pub lesser : Position → Position → Position
lesser p q = if is_below p q then p else q

-- the least of the images by the symmetries 0 to n
unfoldable pub least_image : ℕ → Position → Position
least_image zero p = image 0 p
least_image (suc n) p = lesser (image (suc n) p) (least_image n p)

unfoldable pub canonical : Position → Position
canonical p = least_image 7 p

-- the position is its own canonical image
pub record IsCanonical (p : Position) : Type 0 where
  pub least : canonical p ≡ p

-- c is the least image of p, and s the first symmetry that gives it
pub record IsLeastImage (p c : Position) (s : ℕ) : Type 0 where
  pub valid : s < 8
  pub image_by : c ≡ image s p
  pub least : (t : ℕ) → t < 8 → is_below (image t p) c ≡ false
  pub first : (t : ℕ) → t < s → is_below c (image t p) ≡ true
