-- The lines of a book by place.
--     header v      the header of the version
--     allows shape place b      the byte b is allowed at this place, counted from 0
--     fit shape place len bytes      how len places from this one on fit the bytes: whole, cut short by their end, or with a byte that
--         isn't allowed
use Rattle.std.specs.Prelude.{◌≡◌, ◌<◌, ◌≤◌, length, true, ℕ, zero, suc, ◌+◌, ◌-◌, ◌==◌, ◌||◌, ◌&&◌, ◌++◌, Bool}
use Rattle.std.specs.Prelude.{if◌then◌else◌, nat_lt, nat_le, List, [], ◌∷◌, codes, slice_index}
use Rattle.oth_rules.specs.declared.scoring.Scoring.TheVariants.{Winner, Discs}
use Rattle.oth_book.specs.declared.version.Version.{Version}
use Rattle.oth_book.specs.declared.version.Version.TheVariants.{One, Two}
use Rattle.oth_book.specs.declared.text.shape.Shape.{Shape}
use Rattle.oth_book.specs.declared.text.shape.Shape.TheVariants.{Header, Entry, End}
use Rattle.oth_book.specs.declared.text.shape.Fit.{Fit}
use Rattle.oth_book.specs.declared.text.shape.Fit.TheVariants.{Whole, Cut, Misplaced}

unfoldable pub header : Version → List ℕ
header One = codes "OBOOK1" ++ 10 ∷ []
header (Two Winner) = codes "OBOOK2 W" ++ 10 ∷ []
header (Two Discs) = codes "OBOOK2 D" ++ 10 ∷ []

abbrev pub is_cell : ℕ → Bool
is_cell b = b == 88 || b == 79 || b == 45

abbrev pub is_digit : ℕ → Bool
is_digit b = nat_le 48 b && nat_le b 57

abbrev pub is_hex_digit : ℕ → Bool
is_hex_digit b = is_digit b || nat_le 97 b && nat_le b 102

abbrev pub is_sign : ℕ → Bool
is_sign b = b == 43 || b == 45

-- a sign and two digits; in version 2 a space, a sign and two digits more
abbrev pub bounds_len : Version → ℕ
bounds_len One = 3
bounds_len (Two g) = 7

abbrev pub allows_in_bounds : ℕ → ℕ → Bool
allows_in_bounds place b =
    if place == 0 || place == 4 then is_sign b
    else if place == 3 then b == 32
    else is_digit b

abbrev pub header_len : Version → ℕ
header_len One = 7
header_len (Two g) = 9

abbrev pub shape_len : Shape → ℕ
shape_len (Header v) = header_len v
shape_len (Entry v) = 83 + bounds_len v
shape_len End = 11

-- 64 cells, a space, the bounds in `bounds` bytes, a space, 16 digits of the word of best moves, and the line's end
abbrev pub allows_in_entry : ℕ → ℕ → ℕ → Bool
allows_in_entry bounds place b =
    if nat_lt place 64 then is_cell b
    else if place == 64 then b == 32
    else if nat_lt place (65 + bounds) then allows_in_bounds (place - 65) b
    else if place == 65 + bounds then b == 32
    else if nat_lt place (82 + bounds) then is_hex_digit b
    else b == 10

abbrev pub allows : Shape → ℕ → ℕ → Bool
allows (Header v) place b = b == slice_index (header v) place
allows (Entry v) place b = allows_in_entry (bounds_len v) place b
allows End place b =
    if nat_lt place 4 then b == slice_index (codes "END ") place
    else if nat_lt place 10 then is_digit b
    else b == 10

unfoldable pub fit : Shape → ℕ → ℕ → List ℕ → Fit
fit shape place zero bytes = Whole
fit shape place (suc len) [] = Cut
fit shape place (suc len) (b ∷ bytes) = if allows shape place b then fit shape (place + 1) len bytes else Misplaced

abbrev pub fit_of : Shape → List ℕ → Fit
fit_of shape bytes = fit shape 0 (shape_len shape) bytes

-- a whole line of the kind by place, and maybe more bytes
pub record IsWhole (shape : Shape) (bytes : List ℕ) : Type 0 where
  pub len : shape_len shape ≤ length bytes
  pub places : (i : ℕ) → i < shape_len shape → allows shape i (slice_index bytes i) ≡ true

-- the bytes of the bounds of an entry, by place
pub record AreBoundsBytes (v : Version) (bytes : List ℕ) : Type 0 where
  pub len : length bytes ≡ bounds_len v
  pub places : (i : ℕ) → i < bounds_len v → allows_in_bounds i (slice_index bytes i) ≡ true

-- the bytes of one bound: a sign and two digits
pub record IsBoundBytes (bytes : List ℕ) : Type 0 where
  pub len : length bytes ≡ 3
  pub places : (i : ℕ) → i < 3 → allows_in_bounds i (slice_index bytes i) ≡ true
