-- The bytes of the cells of a board.
use Rattle.std.proofs.Common.{◌≡◌, ℕ, ◌+◌, ◌<◌, ◌==◌, true, false, length, get_or, arith, sym, ap, ◌∙◌, refl, cond, bit_and, ◌≤◌}
use Rattle.std.specs.Int.{bit_at}
use Rattle.std.proofs.lemmas.Bool.Decides.{nat_tests}
use Rattle.std.proofs.lemmas.List.FromFn.{get_or-map-range_with_len, length-map-range_with_len}
use Rattle.std.proofs.lemmas.Nat.Bits.{bit_at-lt, bit_at_and, bit_at-zero, same_from_bits_below}
use Rattle.oth_rules.specs.Square.{squares, has}
use Rattle.oth_rules.specs.Position.{Position, IsBoard, cell, Mine, Theirs, Empty}
use Rattle.oth_book.specs.Order.{cells, cell_byte, mark}

pub length-cells : (p : Position) → length (cells p) ≡ 64
unfolding cells squares
length-cells p = length-map-range_with_len (cell_byte p) 0 64

pub get_or-cells : (p : Position) (s : ℕ) → s < 64 → get_or (cells p) s 0 ≡ cell_byte p s
unfolding cells squares
get_or-cells p s h = get_or-map-range_with_len (cell_byte p) 0 64 s s 0 h (omega arith)

-- a cell is read off two bits
pub cell_byte-bits : (p : Position) (s : ℕ) → cell_byte p s ≡ cond (bit_at p.own s == 1) 88 (cond (bit_at p.opp s == 1) 79 45)
unfolding cell has
cell_byte-bits p s = elim (bit_at p.own s == 1) as (λ a. mark (cond a Mine (cond (bit_at p.opp s == 1) Theirs Empty)) ≡ cond a 88 (cond (bit_at p.opp s == 1) 79 45)) [
  | true ↦ refl
  | false ↦ elim (bit_at p.opp s == 1) as (λ b. mark (cond b Theirs Empty) ≡ cond b 79 45) [ true ↦ refl | false ↦ refl ]
]

abbrev mk : ℕ → ℕ → Position
mk a b = record { own = a; opp = b }

-- at most one of the two words has the square
apart_at : (p : Position) (s : ℕ) → IsBoard p → bit_at p.own s + bit_at p.opp s ≤ 1
apart_at p s h =
    let e = bit_at_and p.own p.opp s in
    let z = bit_at-zero s in
    let none : bit_at (bit_and p.own p.opp) s ≡ 0 = ap (λ w. bit_at w s) h.apart ∙ z in
    omega (arith, e, none, bit_at-lt p.own s, bit_at-lt p.opp s)

-- the byte of a cell tells both bits
abbrev pub byte_of_bits : ℕ → ℕ → ℕ
byte_of_bits a b = cond (a == 1) 88 (cond (b == 1) 79 45)

byte_of_bits-injective : (a b c d : ℕ) → a + b ≤ 1 → c + d ≤ 1 → byte_of_bits a b ≡ byte_of_bits c d → (a ≡ c) × (b ≡ d)
byte_of_bits-injective a b c d h k e = (grind (arith, nat_tests), grind (arith, nat_tests))

pub cell_byte-injective : (p q : Position) (s : ℕ) → IsBoard p → IsBoard q → cell_byte p s ≡ cell_byte q s → (bit_at p.own s ≡ bit_at q.own s) × (bit_at p.opp s ≡ bit_at q.opp s)
cell_byte-injective p q s hp hq e =
    byte_of_bits-injective _ _ _ _ (apart_at p s hp) (apart_at q s hq) (sym (cell_byte-bits p s) ∙ e ∙ cell_byte-bits q s)

pub same_position : (a b c d : ℕ) → a ≡ c → b ≡ d → mk a b ≡ mk c d
same_position a b c d e f = ap (λ x. mk x b) e ∙ ap (mk c) f

-- the cells tell the board
pub cells-injective : (p q : Position) → IsBoard p → IsBoard q → cells p ≡ cells q → p ≡ q
cells-injective p q hp hq e =
    let bits : (s : ℕ) → s < 64 → (bit_at p.own s ≡ bit_at q.own s) × (bit_at p.opp s ≡ bit_at q.opp s) =
    λ s h. cell_byte-injective p q s hp hq (sym (get_or-cells p s h) ∙ ap (λ xs. get_or xs s 0) e ∙ get_or-cells q s h) in
    let own : p.own ≡ q.own = same_from_bits_below 64 _ _ hp.own_fits hq.own_fits (λ s h. (bits s h).0) in
    let opp : p.opp ≡ q.opp = same_from_bits_below 64 _ _ hp.opp_fits hq.opp_fits (λ s h. (bits s h).1) in
    same_position _ _ _ _ own opp
