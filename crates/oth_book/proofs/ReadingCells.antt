-- The words that a reader of cells builds, square by square.
use Rattle.std.proofs.Common.{◌≡◌, ◌≢◌, ◌+◌, ◌*◌, ◌%◌, ◌^◌, ◌<◌, ◌≤◌, inl, inr, ℕ, List, length, true, get_or, bit_or, bit_and, arith, sym, ◌∙◌, refl, min, w64, Fits}
use Rattle.std.specs.Int.{bit_at}
use Rattle.std.proofs.lemmas.Nat.Bits.{bit_at_set_same, bit_at_set_other, bit_at_and, bit_at-zero, same_from_bits}
use Rattle.std.proofs.lemmas.Bool.{cases_eq}
use Rattle.std.proofs.lemmas.Bool.Decides.{nat_tests}
use Rattle.std.proofs.lemmas.Grind.{same_number_lists}
use Rattle.std.specs.Prelude.{Result, Ok, Err}
use Rattle.std.specs.Result.{IsOk, IsErr}
use Rattle.oth_rules.specs.Position.{Position, IsBoard}
use Rattle.oth_book.specs.Order.{cells}
use Rattle.oth_book.specs.Shape.{is_cell}
use Rattle.oth_book.proofs.CellLemmas.{byte_of_bits, cell_byte-bits, length-cells, get_or-cells}

-- the first n cells are those of the words, which have no other squares and share none
pub record AreCells (bytes : List ℕ) (own opp n : ℕ) : Type 0 where
  pub cells : (k : ℕ) → k < n → get_or bytes k 0 ≡ byte_of_bits (bit_at own k) (bit_at opp k)
  pub own_above : (k : ℕ) → n ≤ k → bit_at own k ≡ 0
  pub opp_above : (k : ℕ) → n ≤ k → bit_at opp k ≡ 0
  pub apart : (k : ℕ) → bit_at own k + bit_at opp k ≤ 1

-- the word with one more square
abbrev pub with_square : ℕ → ℕ → ℕ
with_square word n = bit_or word (1 * 2 ^ n % 2 ^ 64)

pub own_more : (bytes : List ℕ) (own opp n : ℕ) → AreCells bytes own opp n → n < 64 → get_or bytes n 0 ≡ 88 → AreCells bytes (with_square own n) opp (n + 1)
own_more bytes own opp n so_far within is =
    let same = bit_at_set_same w64 own n within in
    let other = bit_at_set_other w64 own n within in
    record {
      cells = λ k h. elim (cases_eq k n) [
        | inl e ↦ grind (arith, same, is)
        | inr e ↦ grind (arith, other k e, so_far.cells k)
      ];
      own_above = λ k h. grind (arith, other k, so_far.own_above k);
      opp_above = λ k h. so_far.opp_above k (omega arith);
      apart = λ k. elim (cases_eq k n) [
        | inl e ↦ grind (arith, same, so_far.opp_above n)
        | inr e ↦ grind (arith, other k e, so_far.apart k)
      ];
    }

pub opp_more : (bytes : List ℕ) (own opp n : ℕ) → AreCells bytes own opp n → n < 64 → get_or bytes n 0 ≡ 79 → AreCells bytes own (with_square opp n) (n + 1)
opp_more bytes own opp n so_far within is =
    let same = bit_at_set_same w64 opp n within in
    let other = bit_at_set_other w64 opp n within in
    record {
      cells = λ k h. elim (cases_eq k n) [
        | inl e ↦ grind (arith, same, is, so_far.own_above n)
        | inr e ↦ grind (arith, other k e, so_far.cells k)
      ];
      own_above = λ k h. so_far.own_above k (omega arith);
      opp_above = λ k h. grind (arith, other k, so_far.opp_above k);
      apart = λ k. elim (cases_eq k n) [
        | inl e ↦ grind (arith, same, so_far.own_above n)
        | inr e ↦ grind (arith, other k e, so_far.apart k)
      ];
    }

pub empty_more : (bytes : List ℕ) (own opp n : ℕ) → AreCells bytes own opp n → get_or bytes n 0 ≡ 45 → AreCells bytes own opp (n + 1)
empty_more bytes own opp n so_far is = record {
  cells = λ k h. elim (cases_eq k n) [
    | inl e ↦ grind (arith, is, so_far.own_above n, so_far.opp_above n)
    | inr e ↦ so_far.cells k (omega arith)
  ];
  own_above = λ k h. so_far.own_above k (omega arith);
  opp_above = λ k h. so_far.opp_above k (omega arith);
  apart = so_far.apart;
}

pub are_apart : (bytes : List ℕ) (own opp n : ℕ) → AreCells bytes own opp n → bit_and own opp ≡ 0
are_apart bytes own opp n so_far =
    same_from_bits _ _ (λ i. bit_at_and own opp i ∙ let rest = so_far.apart i in let none : min (bit_at own i) (bit_at opp i) ≡ 0 = omega arith in none ∙ sym (bit_at-zero i))

-- a cell that is no disc is empty
pub empty_cell : (b : ℕ) → is_cell b ≡ true → b ≢ 88 → b ≢ 79 → b ≡ 45
empty_cell b h x o = grind (arith, nat_tests)

pub cells_all : (bytes : List ℕ) (p : Position) → length bytes ≡ 64 → AreCells bytes p.own p.opp 64 → cells p ≡ bytes
cells_all bytes p len so_far =
    same_number_lists _ _ (length-cells p ∙ sym len)
    (λ k h. get_or-cells p k (omega (arith, h, length-cells p)) ∙ cell_byte-bits p k ∙ sym (so_far.cells k (omega (arith, h, length-cells p))))

pub is_board : (bytes : List ℕ) (own opp n : ℕ) → Fits w64 own → Fits w64 opp → AreCells bytes own opp n → IsBoard (record { own = own; opp = opp })
is_board bytes own opp n f g so_far = record { own_fits = omega (arith, f); opp_fits = omega (arith, g); apart = are_apart bytes own opp n so_far }

pub not_err : {T E : Type 0} (r : Result T E) → (IsErr r → ⊥) → IsOk r
not_err (Ok x) h = refl
not_err (Err e) h = absurd (h refl)
