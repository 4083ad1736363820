-- The words that a reader of cells makes of their bytes.
use Rattle.std.proofs.Common.{◌≡◌, ◌+◌, ◌-◌, ◌^◌, ◌<◌, ◌≤◌, ◌==◌, inl, inr, ℕ, Bool, true, false, List, length, take, slice_index, bit_or, bit_and, arith, refl, sym, ap, ◌∙◌, min, max, w64}
use Rattle.std.specs.Prelude.{if◌then◌else◌}
use Rattle.std.specs.Int.{bit_at, bit_not}
use Rattle.std.proofs.lemmas.Nat.Bits.{bit_at_and, bit_at_or, bit_at_not, bit_at_above, bit_at-zero, same_from_bits}
use Rattle.std.proofs.lemmas.Bool.{cases_eq, cases_lt}
use Rattle.std.proofs.lemmas.List.{get_or-take}
use Rattle.std.proofs.lemmas.Nat.{or_lt}
use Rattle.oth_text.specs.BoardLine.{IsBadCell, is_cell}
use Rattle.oth_text.specs.Discs.{AreSquaresOf, ShowsDiscs, disc_byte}

-- the words of the cells that are X, O and -
pub record AreWords (text : List ℕ) (black white empty : ℕ) : Type 0 where
  pub are_black : AreSquaresOf (take 64 text) 88 black
  pub are_white : AreSquaresOf (take 64 text) 79 white
  pub are_empty : AreSquaresOf (take 64 text) 45 empty
  pub black_fits : black < 2 ^ 64
  pub white_fits : white < 2 ^ 64
  pub empty_fits : empty < 2 ^ 64

-- the squares in none of them
abbrev pub in_none : ℕ → ℕ → ℕ → ℕ
in_none black white empty = bit_not w64 (bit_or (bit_or black white) empty)

bad_by_bits : (x b w e : ℕ) → b ≡ (if x == 88 then 1 else 0) → w ≡ (if x == 79 then 1 else 0) → e ≡ (if x == 45 then 1 else 0)
    → 1 - max (max b w) e ≡ (if is_cell x then 0 else 1)
bad_by_bits x b w e is_b is_w is_e = elim (cases_eq x 88) [
  | inl h ↦ grind (arith, is_b, is_w, is_e, h)
  | inr h ↦ elim (cases_eq x 79) [
    | inl k ↦ grind (arith, is_b, is_w, is_e, h, k)
    | inr k ↦ elim (cases_eq x 45) [
      | inl l ↦ grind (arith, is_b, is_w, is_e, h, k, l)
      | inr l ↦ grind (arith, is_b, is_w, is_e, h, k, l)
    ]
  ]
]

disc_by_bits : (x b w e : ℕ) → b ≡ (if x == 88 then 1 else 0) → w ≡ (if x == 79 then 1 else 0) → e ≡ (if x == 45 then 1 else 0)
    → 1 - max (max b w) e ≡ 0 → x ≡ (if b == 1 then 88 else (if w == 1 then 79 else 45))
disc_by_bits x b w e is_b is_w is_e none = elim (cases_eq x 88) [
  | inl h ↦ grind (arith, is_b, is_w, is_e, h)
  | inr h ↦ elim (cases_eq x 79) [
    | inl k ↦ grind (arith, is_b, is_w, is_e, h, k)
    | inr k ↦ elim (cases_eq x 45) [
      | inl l ↦ grind (arith, is_b, is_w, is_e, h, k, l)
      | inr l ↦ grind (arith, is_b, is_w, is_e, h, k, l, none)
    ]
  ]
]

apart_by_bits : (x b w : ℕ) → b ≡ (if x == 88 then 1 else 0) → w ≡ (if x == 79 then 1 else 0) → min b w ≡ 0
apart_by_bits x b w is_b is_w = elim (cases_eq x 88) [
  | inl h ↦ grind (arith, is_b, is_w, h)
  | inr h ↦ grind (arith, is_b, is_w, h)
]

is_cell-if_none : (b : Bool) (n : ℕ) → n ≡ (if b then 0 else 1) → n ≡ 0 → b ≡ true
is_cell-if_none true n e none = refl
is_cell-if_none false n e none = absurd (omega (arith, e, none))

not_cell-if_some : (b : Bool) (n : ℕ) → n ≡ (if b then 0 else 1) → n ≡ 1 → b ≡ true → ⊥
not_cell-if_some b n e some is = absurd (omega (arith, rw is at e, some))

module _ (text : List ℕ) (black white empty : ℕ) (are : AreWords text black white empty) where
  -- what each word has of a cell
  in_word : (byte word : ℕ) → AreSquaresOf (take 64 text) byte word → (s : ℕ) → s < 64 → bit_at word s ≡ (if slice_index text s == byte then 1 else 0)
  in_word byte word same s h = same s h ∙ ap (λ x. if x == byte then 1 else 0) (get_or-take 64 text s 0 h)

  in_black : (s : ℕ) → s < 64 → bit_at black s ≡ (if slice_index text s == 88 then 1 else 0)
  in_black = in_word 88 black are.are_black

  in_white : (s : ℕ) → s < 64 → bit_at white s ≡ (if slice_index text s == 79 then 1 else 0)
  in_white = in_word 79 white are.are_white

  in_empty : (s : ℕ) → s < 64 → bit_at empty s ≡ (if slice_index text s == 45 then 1 else 0)
  in_empty = in_word 45 empty are.are_empty

  bit_in_none : (s : ℕ) → s < 64 → bit_at (in_none black white empty) s ≡ 1 - max (max (bit_at black s) (bit_at white s)) (bit_at empty s)
  bit_in_none s h =
      bit_at_not w64 _ s (or_lt 64 _ _ (or_lt 64 _ _ are.black_fits are.white_fits) are.empty_fits) h
      ∙ ap (λ n. 1 - n) (bit_at_or (bit_or black white) empty s ∙ ap (λ n. max n (bit_at empty s)) (bit_at_or black white s))

  -- a square in none of them is no cell, and any other is
  is_bad : (s : ℕ) → s < 64 → bit_at (in_none black white empty) s ≡ (if is_cell (slice_index text s) then 0 else 1)
  is_bad s h = bit_in_none s h ∙ bad_by_bits _ _ _ _ (in_black s h) (in_white s h) (in_empty s h)

  pub are_shown : in_none black white empty ≡ 0 → ShowsDiscs text black white
  are_shown none s h =
      disc_by_bits _ _ _ _ (in_black s h) (in_white s h) (in_empty s h) (sym (bit_in_none s h) ∙ ap (λ n. bit_at n s) none ∙ bit_at-zero s)

  pub are_apart : bit_and black white ≡ 0
  are_apart = same_from_bits _ _ (λ i. bit_at_and black white i ∙ apart i ∙ sym (bit_at-zero i))
    where
      apart : (i : ℕ) → min (bit_at black i) (bit_at white i) ≡ 0
      apart i = elim (cases_lt i 64) [
        | inl h ↦ apart_by_bits _ _ _ (in_black i h) (in_white i h)
        | inr h ↦ omega (arith, bit_at_above black 64 i are.black_fits h)
      ]

  -- the least square in none of them is the leftmost bad cell
  pub bad_cell : length text ≡ 66 → (n : ℕ) → n < 64 → bit_at (in_none black white empty) n ≡ 1
      → ((i : ℕ) → i < n → bit_at (in_none black white empty) i ≡ 0) → IsBadCell text (n + 1)
  bad_cell len n within set unset =
      let back : n + 1 - 1 ≡ n = omega arith in
      record {
        place = (omega arith, omega arith);
        before = record { len = len; cells = λ k h. is_cell-if_none _ _ (is_bad k (omega arith)) (unset k (omega arith)) };
        bad = λ is. not_cell-if_some _ _ (is_bad n within) set (ap (λ k. is_cell (slice_index text k)) (sym back) ∙ is);
      }
