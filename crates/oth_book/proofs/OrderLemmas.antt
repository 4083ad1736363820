-- Two boards compare as their cells at the lowest square where they differ.
use Rattle.std.proofs.Common.{◌≡◌, ◌≢◌, ℕ, zero, suc, ◌+◌, ◌<◌, List, [], ◌∷◌, length, get_or, arith, sym, ap, ◌∙◌, refl, cond, ◌==◌, bit_or, bit_xor, w64, ◌%◌, ◌^◌}
use Rattle.std.specs.Int.{bit_at, trailing_zeros}
use Rattle.std.specs.declared.cmp.Ordering.{Ordering}
use Rattle.std.specs.declared.cmp.Ordering.TheVariants.{Less, Equal, Greater}
use Rattle.std.specs.Ordering.{nat_cmp, ordering_then}
use Rattle.std.specs.Cmp.{nat_cmp_is}
use Rattle.std.specs.Cmp.Lexicographic.{slice_cmp}
use Rattle.std.proofs.lemmas.Map.Lookups.{exact_unsigned}
use Rattle.std.proofs.lemmas.Nat.{or_lt, xor_lt}
use Rattle.std.proofs.lemmas.Nat.Bits.{bit_at-lt, bit_at_or, bit_at_xor, bit_at-trailing_zeros, bit_at-zero, same_from_bits}
use Rattle.oth_rules.specs.Position.{Position, IsBoard}
use Rattle.oth_book.specs.Order.{cells, cell_byte, board_cmp}
use Rattle.oth_book.proofs.CellLemmas.{length-cells, get_or-cells, cell_byte-bits, cell_byte-injective, same_position}

nat_cmp_same : (n : ℕ) → nat_cmp n n ≡ Equal
nat_cmp_same n = sym (nat_cmp_is n n Equal refl)

nat_cmp_equal : (a b : ℕ) → nat_cmp a b ≡ Equal → a ≡ b
nat_cmp_equal a b h = exact_unsigned a b h

then_first : (o p : Ordering) → o ≢ Equal → ordering_then o p ≡ o
then_first Less p h = refl
then_first Equal p h = absurd (h refl)
then_first Greater p h = refl

then_second : (o p : Ordering) → o ≡ Equal → ordering_then o p ≡ p
then_second o p h = ap (λ x. ordering_then x p) h

-- lists that are the same below n compare as their elements at n, where those differ
cmp_at : (xs ys : List ℕ) (n : ℕ) → n < length xs → n < length ys → ((k : ℕ) → k < n → get_or xs k 0 ≡ get_or ys k 0) → nat_cmp (get_or xs n 0) (get_or ys n 0) ≢ Equal
    → slice_cmp nat_cmp xs ys ≡ nat_cmp (get_or xs n 0) (get_or ys n 0)
cmp_at [] ys n a b same differ = absurd (omega arith)
cmp_at (x ∷ xs) [] n a b same differ = absurd (omega arith)
cmp_at (x ∷ xs) (y ∷ ys) zero a b same differ = then_first _ _ differ
cmp_at (x ∷ xs) (y ∷ ys) (suc n) a b same differ =
    let first : x ≡ y = same 0 (omega arith) in
    then_second _ _ (ap (nat_cmp x) (sym first) ∙ nat_cmp_same x)
    ∙ cmp_at xs ys n (omega arith) (omega arith) (λ k h. same (suc k) (omega arith)) differ

cmp_same : (xs : List ℕ) → slice_cmp nat_cmp xs xs ≡ Equal
cmp_same [] = refl
cmp_same (x ∷ xs) = then_second _ _ (nat_cmp_same x) ∙ cmp_same xs

-- where two boards differ, in either word
abbrev pub differ : Position → Position → ℕ
differ p q = bit_or (bit_xor p.own q.own) (bit_xor p.opp q.opp)

same_bit : (a b : ℕ) → a < 2 → b < 2 → (a + b) % 2 ≡ 0 → a ≡ b
same_bit a b ha hb h = omega arith

differ-own : (p q : Position) (s : ℕ) → bit_at (differ p q) s ≡ 0 → bit_at p.own s ≡ bit_at q.own s
differ-own p q s h =
    let e = bit_at_or (bit_xor p.own q.own) (bit_xor p.opp q.opp) s in
    same_bit _ _ (bit_at-lt p.own s) (bit_at-lt q.own s) (sym (bit_at_xor p.own q.own s) ∙ omega (arith, e, h))

differ-opp : (p q : Position) (s : ℕ) → bit_at (differ p q) s ≡ 0 → bit_at p.opp s ≡ bit_at q.opp s
differ-opp p q s h =
    let e = bit_at_or (bit_xor p.own q.own) (bit_xor p.opp q.opp) s in
    same_bit _ _ (bit_at-lt p.opp s) (bit_at-lt q.opp s) (sym (bit_at_xor p.opp q.opp s) ∙ omega (arith, e, h))

differ_not : (p q : Position) (s : ℕ) → bit_at p.own s ≡ bit_at q.own s → bit_at p.opp s ≡ bit_at q.opp s → bit_at (differ p q) s ≡ 0
differ_not p q s a b =
    let e = bit_at_or (bit_xor p.own q.own) (bit_xor p.opp q.opp) s in
    let x = bit_at_xor p.own q.own s in
    let y = bit_at_xor p.opp q.opp s in
    omega (arith, e, x, y, a, b, bit_at-lt p.own s, bit_at-lt p.opp s)

same_cell : (p q : Position) (s : ℕ) → bit_at (differ p q) s ≡ 0 → cell_byte p s ≡ cell_byte q s
same_cell p q s h =
    cell_byte-bits p s
    ∙ ap (λ b. cond (b == 1) 88 (cond (bit_at p.opp s == 1) 79 45)) (differ-own p q s h)
    ∙ ap (λ b. cond (bit_at q.own s == 1) 88 (cond (b == 1) 79 45)) (differ-opp p q s h)
    ∙ sym (cell_byte-bits q s)

pub board_cmp-equal : (p q : Position) → differ p q ≡ 0 → board_cmp p q ≡ Equal
unfolding board_cmp
board_cmp-equal p q h =
    let none : (s : ℕ) → bit_at (differ p q) s ≡ 0 = λ s. ap (λ w. bit_at w s) h ∙ bit_at-zero s in
    let own : p.own ≡ q.own = same_from_bits _ _ (λ s. differ-own p q s (none s)) in
    let opp : p.opp ≡ q.opp = same_from_bits _ _ (λ s. differ-opp p q s (none s)) in
    let same : p ≡ q = same_position _ _ _ _ own opp in
    ap (λ r. slice_cmp nat_cmp (cells p) (cells r)) (sym same) ∙ cmp_same (cells p)

-- two boards have different cells where they differ
cells_differ : (p q : Position) (s : ℕ) → IsBoard p → IsBoard q → bit_at (differ p q) s ≡ 1 → cell_byte p s ≢ cell_byte q s
cells_differ p q s hp hq h e =
    let same : (bit_at p.own s ≡ bit_at q.own s) × (bit_at p.opp s ≡ bit_at q.opp s) = cell_byte-injective p q s hp hq e in
    absurd (omega (arith, h, differ_not p q s same.0 same.1))

-- the same of the four words, as they were read
fits : (a b c d : ℕ) → a < 2 ^ 64 → b < 2 ^ 64 → c < 2 ^ 64 → d < 2 ^ 64 → bit_or (bit_xor a b) (bit_xor c d) < 2 ^ 64
fits a b c d ha hb hc hd = or_lt 64 _ _ (xor_lt 64 a b ha hb) (xor_lt 64 c d hc hd)

pub lowest_within : (a b c d : ℕ) → a < 2 ^ 64 → b < 2 ^ 64 → c < 2 ^ 64 → d < 2 ^ 64 → bit_or (bit_xor a b) (bit_xor c d) ≢ 0
    → trailing_zeros w64 (bit_or (bit_xor a b) (bit_xor c d)) < 64
lowest_within a b c d ha hb hc hd some =
    (bit_at-trailing_zeros w64 (bit_or (bit_xor a b) (bit_xor c d)) (omega arith) (fits a b c d ha hb hc hd)).0

board_cmp-lowest : (p q : Position) → IsBoard p → IsBoard q → 0 < differ p q → nat_cmp (cell_byte p (trailing_zeros w64 (differ p q))) (cell_byte q (trailing_zeros w64 (differ p q))) ≡ board_cmp p q
unfolding board_cmp
board_cmp-lowest p q hp hq some =
    let found = bit_at-trailing_zeros w64 (differ p q) some (fits p.own q.own p.opp q.opp hp.own_fits hq.own_fits hp.opp_fits hq.opp_fits) in
    let s = trailing_zeros w64 (differ p q) in
    let ep = get_or-cells p s found.0 in
    let eq = get_or-cells q s found.0 in
    let at : nat_cmp (get_or (cells p) s 0) (get_or (cells q) s 0) ≡ nat_cmp (cell_byte p s) (cell_byte q s) = ap (λ x. nat_cmp x (get_or (cells q) s 0)) ep ∙ ap (nat_cmp (cell_byte p s)) eq in
    sym (cmp_at (cells p) (cells q) s (rw length-cells found.0) (rw length-cells found.0)
    (λ k h. get_or-cells p k (omega (arith, found.0)) ∙ same_cell p q k (found.2 k h) ∙ sym (get_or-cells q k (omega (arith, found.0))))
    (λ e. cells_differ p q s hp hq found.1 (nat_cmp_equal _ _ (sym at ∙ e))) ∙ at)

-- the words, the bytes and their order as the code finds them
pub board_cmp-at : (p q : Position) → IsBoard p → IsBoard q → (a b c d x y : ℕ) (r : Ordering) → a ≡ p.own → b ≡ q.own → c ≡ p.opp → d ≡ q.opp
    → bit_or (bit_xor a b) (bit_xor c d) ≢ 0 → x ≡ cell_byte p (trailing_zeros w64 (bit_or (bit_xor a b) (bit_xor c d)))
    → y ≡ cell_byte q (trailing_zeros w64 (bit_or (bit_xor a b) (bit_xor c d))) → r ≡ nat_cmp x y → r ≡ board_cmp p q
board_cmp-at p q hp hq a b c d x y r ea eb ec ed some ex ey er =
    let word : bit_or (bit_xor a b) (bit_xor c d) ≡ differ p q = cc in
    let place : trailing_zeros w64 (bit_or (bit_xor a b) (bit_xor c d)) ≡ trailing_zeros w64 (differ p q) = ap (trailing_zeros w64) word in
    er ∙ ap (λ z. nat_cmp z y) (ex ∙ ap (cell_byte p) place) ∙ ap (nat_cmp (cell_byte p (trailing_zeros w64 (differ p q)))) (ey ∙ ap (cell_byte q) place)
    ∙ board_cmp-lowest p q hp hq (omega (arith, some, word))
