-- Lemmas on sets of squares.
use Rattle.std.proofs.Common.{◌≡◌, ◌≢◌, ◌⊎◌, inl, inr, ⊎_elim, ℕ, ◌+◌, ◌*◌, ◌%◌, ◌^◌, ◌<◌, ◌≤◌, List, length, get_or, true, false, bit_and, bit_or, arith, refl, ap, sym, subst, ◌∙◌, w64}
use Rattle.std.specs.Int.{bit_not, bit_at}
use Rattle.std.specs.Prelude.{◌==◌}
use Rattle.std.proofs.lemmas.Nat.Bits.{bit_at_clear_same, bit_at_clear_other, bit_at_set_same, bit_at_set_other, bit_at-zero}
use Rattle.std.proofs.lemmas.Nat.{and_le_l, and_mask, le_or_l, le_or_r, pow_below}
use Rattle.std.proofs.lemmas.List.{get_or_default}
use Rattle.std.proofs.lemmas.Bool.{and_parts, or_cases, false≢true, cases_eq, cases_lt, eq-eqb}
use Rattle.oth_rules.specs.Square.{has}
use Rattle.oth_rules.proofs.Bits.{has-and, has-or, has-pow}
use Rattle.oth_search.specs.Bounds.Squares.{In, Without, With}

-- one square less is left
pub record Takes (left : ℕ → Type 0) (square : ℕ) (rest : ℕ → Type 0) : Type 0 where
  pub member : left square
  pub kept : (s : ℕ) → rest s → left s
  pub split : (s : ℕ) → left s → (s ≡ square) ⊎ rest s

pub In-first_of : (set s : ℕ) → s < 64 → has set s ≡ true → In set s
In-first_of set s within member = record { on_board = within; member = member }

-- the word of a square alone
one-square : (k bit : ℕ) → k < 64 → bit ≡ 2 ^ k → bit ≡ 1 * 2 ^ k % 2 ^ 64
one-square k bit h e = e ∙ small (2 ^ k) (pow_below k 64 h)
  where
    small : (x : ℕ) → x < 2 ^ 64 → x ≡ 1 * x % 2 ^ 64
    small x fits = omega (arith, fits)

Without-place : (n k : ℕ) → k < 64 → Without n k (bit_and n (bit_not w64 (1 * 2 ^ k % 2 ^ 64)))
unfolding has
Without-place n k h = record {
  taken = ap (λ b. b == 1) (bit_at_clear_same w64 n k h);
  others = λ s within other. ap (λ b. b == 1) (bit_at_clear_other w64 n k h s within other);
}

pub In-both : (set early s : ℕ) → s < 64 → has (bit_and set early) s ≡ true → In set s
In-both set early s within member = record { on_board = within; member = (and_parts (has set s) (has early s) (sym (has-and set early s) ∙ member)).0 }

-- of two parts of a set
pub In-parts : (set a b s : ℕ) → s < 64 → has (bit_or (bit_and set a) (bit_and set b)) s ≡ true → In set s
In-parts set a b s within member =
    elim (or_cases (has (bit_and set a) s) (has (bit_and set b) s) (sym (has-or (bit_and set a) (bit_and set b) s) ∙ member)) [
      | inl first ↦ In-both set a s within first
      | inr second ↦ In-both set b s within second
    ]

-- where a set has none of the early squares, the other part is the whole set
pub some_part : (set early flag : ℕ) → set < 2 ^ 64 → set ≢ 0 → (bit_and set early ≡ 0 → flag ≡ 0) →
    bit_or (bit_and set early) (bit_and set ((flag + 18446744073709551615) % 18446744073709551616)) ≢ 0
some_part set early flag fits some none e =
    let rest = bit_and set ((flag + 18446744073709551615) % 18446744073709551616) in
    let no_early : bit_and set early ≡ 0 = omega (arith, e, le_or_l (bit_and set early) rest) in
    let no_rest : rest ≡ 0 = omega (arith, e, le_or_r (bit_and set early) rest) in
    let all : rest ≡ set = ap (λ x. bit_and set ((x + 18446744073709551615) % 18446744073709551616)) (none no_early) ∙ and_mask set 64 ∙ whole set fits in
    some (sym all ∙ no_rest)
  where
    whole : (x : ℕ) → x < 2 ^ 64 → x % 2 ^ 64 ≡ x
    whole x l = omega (arith, l)

-- a set that keeps the word of a square has the square
pub In-word : (set k word : ℕ) → k < 64 → word ≡ 2 ^ k → bit_and set word ≡ word → In set k
In-word set k word h e same = record {
  on_board = h;
  member = (and_parts (has set k) (has word k) (sym (has-and set word k) ∙ ap (λ w. has w k) same ∙ ap (λ w. has w k) e ∙ has-pow k k ∙ eq-eqb k k refl)).0;
}

pub Without-first : (n k bit : ℕ) → k < 64 → bit ≡ 2 ^ k → Without n k (bit_and n (bit_not w64 bit))
Without-first n k bit h e = rw (one-square k bit h e) (Without-place n k h)

-- a set without one of its squares is a smaller number
pub less-first : (n k bit : ℕ) → In n k → bit ≡ 2 ^ k → bit_and n (bit_not w64 bit) < n
less-first n k bit h e =
    let m : ℕ = bit_and n (bit_not w64 bit) in
    let taken = (Without-first n k bit h.on_board e).taken in
    let differs : m ≢ n = λ e. absurd (false≢true (sym taken ∙ ap (λ x. has x k) e ∙ h.member)) in
    omega (arith, and_le_l n (bit_not w64 bit))

-- the empty set has no square
pub In-none : (set : ℕ) → set ≡ 0 → (s : ℕ) → In set s → ⊥
unfolding has
In-none set e s h = false≢true (sym (ap (λ b. b == 1) (ap (λ w. bit_at w s) e ∙ bit_at-zero s)) ∙ h.member)

pub Takes-without : (set square rest : ℕ) → In set square → Without set square rest → Takes (In set) square (In rest)
Takes-without set square rest h w = record {
  member = h;
  kept = λ s r. ⊎_elim
      (λ e. absurd (false≢true (sym w.taken ∙ ap (has rest) (sym e) ∙ r.member)))
      (λ other. record { on_board = r.on_board; member = sym (w.others s r.on_board other) ∙ r.member })
      (cases_eq s square);
  split = λ s r. ⊎_elim inl (λ other. inr (record { on_board = r.on_board; member = w.others s r.on_board other ∙ r.member })) (cases_eq s square);
}

-- the same of a square that is equal to the one that was taken
pub Takes-same : (set square taken rest : ℕ) → taken ≡ square → In set square → Without set taken rest → Takes (In set) square (In rest)
Takes-same set square taken rest e h w = Takes-without set square rest h (subst (λ s. Without set s rest) e w)

-- what is left of some squares is among what is left of more, if one of them is taken from both
pub still-among : (left rest left' rest' square : ℕ) → ((s : ℕ) → In rest s → In left s) → In rest square → Without left square left' → Without rest square rest' → (s : ℕ) → In rest' s → In left' s
still-among left rest left' rest' square among h wl wr s r = ⊎_elim
    (λ e. absurd (false≢true (sym wr.taken ∙ ap (has rest') (sym e) ∙ r.member)))
    (λ other. other)
    ((Takes-without left square left' (among square h) wl).split s (among s ((Takes-without rest square rest' h wr).kept s r)))

-- the squares of a list from a place on
abbrev pub FromPlace : List ℕ → ℕ → ℕ → Type 0
FromPlace xs i s = (k : ℕ) × (i ≤ k) × (k < length xs) × (get_or xs k s ≡ s)

pub Takes-next : (xs : List ℕ) (i s : ℕ) → i < length xs → s ≡ get_or xs i s → Takes (FromPlace xs i) s (FromPlace xs (i + 1))
Takes-next xs i s within is = record {
  member = (i, omega arith, within, sym is);
  kept = λ t h. (h.0, omega (arith, h.1), h.2, h.3);
  split = λ t h. ⊎_elim
      (λ e. inl (sym h.3 ∙ ap (λ k. get_or xs k t) e ∙ get_or_default xs i t s within ∙ sym is))
      (λ other. inr (h.0, omega (arith, h.1, other), h.2, h.3))
      (cases_eq h.0 i);
}

pub FromPlace-end : (xs : List ℕ) (i s : ℕ) → length xs ≤ i → FromPlace xs i s → ⊥
FromPlace-end xs i s end h = absurd (omega (arith, h.1, h.2))

With-place : (n k : ℕ) → k < 64 → With n k (bit_or n (1 * 2 ^ k % 2 ^ 64))
unfolding has
With-place n k h = record {
  added = ap (λ b. b == 1) (bit_at_set_same w64 n k h);
  others = λ s other. ap (λ b. b == 1) (bit_at_set_other w64 n k h s other);
}

pub With-set : (n k bit : ℕ) → k < 64 → bit ≡ 2 ^ k → With n k (bit_or n bit)
With-set n k bit h e = rw (one-square k bit h e) (With-place n k h)

pub least-first_of : (set first : ℕ) → ((s : ℕ) → s < first → has set s ≡ false) → (s : ℕ) → In set s → first ≤ s
least-first_of set first none s h =
    ⊎_elim
    (λ below. absurd (false≢true (sym (none s below) ∙ h.member)))
    (λ above. above)
    (cases_lt s first)
