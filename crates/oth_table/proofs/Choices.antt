-- The two cells of a board.
use Rattle.std.proofs.Common.{◌≡◌, ◌≢◌, ℕ, zero, suc, ◌+◌, ◌-◌, ◌*◌, ◌/◌, ◌%◌, ◌^◌, ◌<◌, ◌≤◌, sym, ap, ◌∙◌, subst, arith, pow_pos}
use Rattle.std.proofs.lemmas.Nat.{pow-add}
use Rattle.std.proofs.Math.Nat.{mul-div-mul_right, mul-div_cancel}
use native.Mathlib.Numerals.{unary_clauses}
use Rattle.oth_table.specs.Sizes.{IsSize}

twice_power : (k : ℕ) → 2 ^ suc k ≡ 2 * 2 ^ k
twice_power k = simp unary_clauses (omega arith)

even_power : (k n : ℕ) → n ≡ 2 ^ k → n ≢ 1 → n % 2 ≡ 0
even_power zero n e other = absurd (other e)
even_power (suc k) n e other = let twice = twice_power k in omega arith

-- a neighbour of an even place is still in the table
pub neighbour_inside : (cells c : ℕ) → IsSize cells → cells ≢ 1 → c % 2 ≡ 0 → c < cells → c + 1 < cells
neighbour_inside cells c lawful other even inside = let e = even_power lawful.0 cells lawful.2 other in omega arith

pub some_cells : (cells : ℕ) → IsSize cells → 0 < cells
some_cells cells lawful = subst (λ n. 0 < n) (sym lawful.2) (pow_pos lawful.0)

-- all 64 bits are the highest k and the rest
whole_word : (k : ℕ) → k ≤ 18 → 2 ^ 64 ≡ 2 ^ (64 - k) * 2 ^ k
whole_word k few = let e : 64 ≡ 64 - k + k = omega arith in ap (λ n. 2 ^ n) e ∙ pow-add 2 (64 - k) k

rest_of : (k : ℕ) → k ≤ 18 → 2 ^ 64 / 2 ^ k ≡ 2 ^ (64 - k)
rest_of k few = ap (λ n. n / 2 ^ k) (whole_word k few) ∙ mul-div_cancel (2 ^ (64 - k)) (pow_pos k)

-- a product with the number of cells has the highest bits above the 64th
pub highest_bits : (h cells : ℕ) → IsSize cells → h * cells / 2 ^ 64 ≡ h / (2 ^ 64 / cells)
highest_bits h cells lawful = let k = lawful.0 in let few = lawful.1 in
    subst (λ n. h * n / 2 ^ 64 ≡ h / (2 ^ 64 / n)) (sym lawful.2)
    (ap (λ n. h * 2 ^ k / n) (whole_word k few) ∙ (mul-div-mul_right h (2 ^ (64 - k)) (pow_pos k) ∙ ap (λ n. h / n) (sym (rest_of k few))))
