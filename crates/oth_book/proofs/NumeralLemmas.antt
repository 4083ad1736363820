-- Numbers in a fixed number of digits.
use Rattle.std.proofs.Common.{◌≡◌, ℕ, zero, suc, ◌+◌, ◌-◌, ◌*◌, ◌/◌, ◌%◌, ◌^◌, ◌<◌, ◌≤◌, List, [], ◌∷◌, ◌++◌, length, drop, arith, sym, ap, ◌∙◌, refl, add-one, append_assoc, length-append}
use Rattle.std.proofs.Math.Nat.{pow-suc, pow-le-pow_right, mul-le-mul_right}
use Rattle.std.proofs.Math.ListN.{set}
use Rattle.std.proofs.lemmas.Nat.{div-mul-add, div-add-mod'}
use Rattle.std.proofs.lemmas.List.{drop-set}
use Rattle.oth_book.specs.Numeral.{digit_byte, numeral}

pub length-numeral : (base len n : ℕ) → length (numeral base len n) ≡ len
unfolding numeral
length-numeral base zero n = refl
length-numeral base (suc len) n = length-append (numeral base len (n / base)) _ ∙ ap (λ k. k + 1) (length-numeral base len (n / base)) ∙ add-one len

mod-mul-add : (a w b : ℕ) → b < w → (a * w + b) % w ≡ b
mod-mul-add a w b h =
    let d = div-mul-add a w b h in
    let e = div-add-mod' (a * w + b) w in
    let f : a * w + (a * w + b) % w ≡ a * w + b = ap (λ q. q * w + (a * w + b) % w) (sym d) ∙ e in
    omega (arith, f)

-- one more digit is read
pub numeral-push : (base k n d : ℕ) → d < base → numeral base (k + 1) (n * base + d) ≡ numeral base k n ++ digit_byte d ∷ []
unfolding numeral
numeral-push base k n d h =
    rw (add-one, div-mul-add n base d h, mod-mul-add n base d h) refl

pub bound-push : (base k n d : ℕ) → d < base → n < base ^ k → n * base + d < base ^ (k + 1)
bound-push base k n d h b =
    let e = pow-suc base k in
    let f = mul-le-mul_right base b in
    rw (add-one) (omega (arith, e, f))

pub push_fits : (base k len n d : ℕ) → d < base → n < base ^ k → k < len → base ^ len ≤ 2 ^ 64 → n * base + d < 2 ^ 64
push_fits base k len n d h b within room =
    let e = bound-push base k n d h b in
    let pos : 0 < base = omega arith in
    let f = pow-le-pow_right {n = base} pos {i = k + 1} {j = len} (omega arith) in
    omega (arith, e, f)

-- one more digit is written, from the last on
pub numeral-front : (base k n : ℕ) → numeral base (k + 1) n ≡ numeral base k (n / base) ++ digit_byte (n % base) ∷ []
unfolding numeral
numeral-front base k n = rw add-one refl

pub numeral-write : (base k n : ℕ) (xs whole : List ℕ) → k < length xs → numeral base (k + 1) n ++ drop (k + 1) xs ≡ whole
    → numeral base k (n / base) ++ drop k (set xs k (digit_byte (n % base))) ≡ whole
numeral-write base k n xs whole h so_far =
    ap (λ ys. numeral base k (n / base) ++ ys) (drop-set xs k _ h)
    ∙ sym (append_assoc (numeral base k (n / base)) (digit_byte (n % base) ∷ []) (drop (k + 1) xs))
    ∙ ap (λ ys. ys ++ drop (k + 1) xs) (sym (numeral-front base k n)) ∙ so_far

pub numeral-write_down : (base p n : ℕ) (xs whole : List ℕ) → 0 < p → p ≤ length xs → numeral base p n ++ drop p xs ≡ whole
    → numeral base (p - 1) (n / base) ++ drop (p - 1) (set xs (p - 1) (digit_byte (n % base))) ≡ whole
numeral-write_down base p n xs whole some within so_far =
    let e : p ≡ p - 1 + 1 = omega arith in
    numeral-write base (p - 1) n xs whole (omega arith) (ap (λ k. numeral base k n ++ drop k xs) (sym e) ∙ so_far)

pub numeral-all : (base p n : ℕ) (xs whole : List ℕ) → p ≡ 0 → numeral base p n ++ drop p xs ≡ whole → xs ≡ whole
unfolding numeral
numeral-all base p n xs whole e so_far = sym (ap (λ k. numeral base k n ++ drop k xs) e) ∙ so_far
