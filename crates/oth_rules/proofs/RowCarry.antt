-- A sum carries along the rows: from the first square of a line to the one past it.
use Rattle.std.proofs.Common.{◌≡◌, ℕ, zero, suc, ◌+◌, ◌-◌, ◌*◌, ◌/◌, ◌%◌, ◌^◌, ◌<◌, ◌≤◌, Bool, true, false, not, eqb, ◌&&◌, ◌||◌, refl, sym, ap, ◌∙◌, inl, inr, arith}
use Rattle.std.specs.Prelude.{bit_and, ◌==◌}
use Rattle.std.specs.Int.{bit_at}
use Rattle.std.proofs.lemmas.Bool.{cases_lt, cases_eq, cases_Bool, eq-eqb, ne_eqb, and_parts, false≢true, agree_below, agree_below_at}
use Rattle.std.proofs.lemmas.Nat.{and_le_l}
use Rattle.std.proofs.lemmas.Nat.Bits.{bit_at-suc, bit_at_lowest}
use Rattle.oth_rules.specs.Square.{has, Back, Stay, next, stepped, square_at}
use Rattle.oth_rules.specs.Line.{east, reversed, some_in, is_next, is_on_line}
use Rattle.oth_rules.specs.declared.masks.TheConstants.{INNER}
use Rattle.oth_rules.proofs.Bits.{has-and, has-above, has-shl_high}
use Rattle.oth_rules.proofs.Rays.{some_in-or}

-- ---- the carry into a square, where each square of y is one of x

bit : Bool → ℕ
bit true = 1
bit false = 0

carried : (ℕ → Bool) → (ℕ → Bool) → Bool → ℕ → Bool
carried x y c zero = c
carried x y c (suc n) = x n && (y n || carried x y c n)

carried_more : (x y : ℕ → Bool) (c : Bool) (n : ℕ) → carried (λ i. x (suc i)) (λ i. y (suc i)) (x 0 && (y 0 || c)) n ≡ carried x y c (suc n)
unfolding carried
carried_more x y c zero = refl
carried_more x y c (suc n) = ap (λ b. x (suc n) && (y (suc n) || b)) (carried_more x y c n)

has_suc : (w i : ℕ) → has w (suc i) ≡ has (w / 2) i
unfolding has
has_suc w i = ap (λ b. eqb b 1) (bit_at-suc w i)

low_is : (x : ℕ) → x % 2 ≡ bit (has x 0)
unfolding has bit
low_is x =
    elim (cases_eq (x % 2) 1) [
      | inl e ↦ e ∙ ap bit (sym (eq-eqb (bit_at x 0) 1 (bit_at_lowest x ∙ e)))
      | inr n ↦ none x n ∙ ap bit (sym (ne_eqb (bit_at x 0) 1 (λ e. n (sym (bit_at_lowest x) ∙ e))))
    ]
  where
    none : (x : ℕ) → (x % 2 ≡ 1 → ⊥) → x % 2 ≡ 0
    none x n = omega (arith, n)

has_low : (z : ℕ) (c : Bool) → z % 2 ≡ bit c → has z 0 ≡ c
unfolding has bit
has_low z true e = eq-eqb (bit_at z 0) 1 (bit_at_lowest z ∙ e)
has_low z false e = ne_eqb (bit_at z 0) 1 (λ one. absurd (odd z e (sym (bit_at_lowest z) ∙ one)))
  where
    odd : (z : ℕ) → z % 2 ≡ 0 → z % 2 ≡ 1 → ⊥
    odd z e o = absurd (omega (arith, e, o))

halves : (x y : ℕ) (a b c : Bool) → x % 2 ≡ bit a → y % 2 ≡ bit b → (b ≡ true → a ≡ true) → (x + y + bit c) / 2 ≡ x / 2 + y / 2 + bit (a && (b || c))
unfolding bit
halves x y true true true e h k = omega (arith, e, h)
halves x y true true false e h k = omega (arith, e, h)
halves x y true false true e h k = omega (arith, e, h)
halves x y true false false e h k = omega (arith, e, h)
halves x y false true c e h k = absurd (false≢true (k refl))
halves x y false false true e h k = omega (arith, e, h)
halves x y false false false e h k = omega (arith, e, h)

lowest_sum : (x y : ℕ) (c : Bool) → x % 2 ≡ 0 → y % 2 ≡ 0 → (x + y + bit c) % 2 ≡ bit c
unfolding bit
lowest_sum x y true e h = omega (arith, e, h)
lowest_sum x y false e h = omega (arith, e, h)

left_out : (a b : Bool) → (b ≡ true → a ≡ true) → a ≡ false → b ≡ false
left_out a true h e = absurd (false≢true (sym e ∙ h refl))
left_out a false h e = refl

-- outside x, the sum has the squares that a carry comes into
sum_has : (n x y : ℕ) (f g : ℕ → Bool) (c : Bool) → ((i : ℕ) → has x i ≡ f i) → ((i : ℕ) → has y i ≡ g i) → ((i : ℕ) → g i ≡ true → f i ≡ true) → f n ≡ false →
    has (x + y + bit c) n ≡ carried f g c n
unfolding carried bit
sum_has zero x y f g c ex ey within out =
    has_low (x + y + bit c) c (lowest_sum x y c (low_is x ∙ ap bit (ex 0 ∙ out)) (low_is y ∙ ap bit (ey 0 ∙ left_out (f 0) (g 0) (within 0) out)))
sum_has (suc n) x y f g c ex ey within out =
    has_suc (x + y + bit c) n
    ∙ ap (λ w. has w n) (halves x y (f 0) (g 0) c (low_is x ∙ ap bit (ex 0)) (low_is y ∙ ap bit (ey 0)) (within 0))
    ∙ sum_has n (x / 2) (y / 2) (λ i. f (suc i)) (λ i. g (suc i)) (f 0 && (g 0 || c))
    (λ i. sym (has_suc x i) ∙ ex (suc i)) (λ i. sym (has_suc y i) ∙ ey (suc i)) (λ i. within (suc i)) out
    ∙ carried_more f g c n

-- ---- a step to the east

in_column_a : (f : ℕ → Bool) (t : ℕ) → t % 8 ≡ 0 → is_next east f t ≡ false
unfolding is_next next stepped square_at some_in
in_column_a f t e = ap (λ x. some_in f (square_at (stepped Back x) (stepped Stay (t / 8)))) e

further_east : (f : ℕ → Bool) (s : ℕ) → (suc s % 8 ≡ 0 → ⊥) → is_next east f (suc s) ≡ f s
unfolding is_next next stepped square_at some_in
further_east f s n =
    let column : suc s % 8 ≡ suc (s % 8) = omega (arith, n) in
    let row : suc s / 8 ≡ s / 8 = omega (arith, n) in
    let there : 8 * (s / 8) + s % 8 ≡ s = omega arith in
    ap (λ x. some_in f (square_at (stepped Back x) (stepped Stay (suc s / 8)))) column
    ∙ ap (λ y. f (8 * y + s % 8)) row ∙ ap f there

same_start : (t a b : Bool) → (t && ((t && a) || b)) ≡ (t && (a || b))
same_start true a b = refl
same_start false a b = refl

none_of : (t b : Bool) → t ≡ false → (t && b) ≡ false
none_of true b e = absurd (false≢true (sym e))
none_of false b e = refl

-- ---- the carries are the squares past the lines, where the lines leave out columns a and h

module _ (source through : ℕ → Bool) (first : (s : ℕ) → s % 8 ≡ 0 → through s ≡ false) (last : (s : ℕ) → s % 8 ≡ 7 → through s ≡ false) where
  abbrev start : ℕ → Bool
  start s = through s && is_next east source s

  either : (s m : ℕ) → is_next east (λ u. source u || is_on_line m east source through u) s ≡ (is_next east source s || is_next east (is_on_line m east source through) s)
  unfolding is_next
  either s m = some_in-or source (is_on_line m east source through) (next (reversed east) s)

  past_the_edge : (s : ℕ) → suc s % 8 ≡ 0 → (through s && (start s || carried through start false s)) ≡ false
  past_the_edge s z = none_of (through s) (start s || carried through start false s) (last s (omega (arith, z)))

  carries : (n t : ℕ) → t % 8 ≤ n + 1 → carried through start false t ≡ is_next east (is_on_line n east source through) t
  unfolding carried is_on_line
  carries zero zero l = sym (in_column_a (is_on_line zero east source through) 0 refl)
  carries (suc m) zero l = sym (in_column_a (is_on_line (suc m) east source through) 0 refl)
  carries zero (suc s) l =
      elim (cases_eq (suc s % 8) 0) [
        | inl z ↦ past_the_edge s z ∙ sym (in_column_a (is_on_line zero east source through) (suc s) z)
        | inr k ↦ none_of (through s) (start s || carried through start false s) (first s (omega (arith, l, k)))
            ∙ sym (further_east (is_on_line zero east source through) s k)
      ]
  carries (suc m) (suc s) l =
      elim (cases_eq (suc s % 8) 0) [
        | inl z ↦ past_the_edge s z ∙ sym (in_column_a (is_on_line (suc m) east source through) (suc s) z)
        | inr k ↦ ap (λ b. through s && (start s || b)) (carries m s (omega (arith, l, k)))
            ∙ same_start (through s) (is_next east source s) (is_next east (is_on_line m east source through) s)
            ∙ ap (λ b. through s && b) (sym (either s m))
            ∙ sym (further_east (is_on_line (suc m) east source through) s k)
      ]

-- ---- the inner columns

is_inner : ℕ → Bool
is_inner s = not (has INNER s) || (not (s % 8 == 0) && not (s % 8 == 7))

all_inner : agree_below is_inner (λ _. true) 64 ≡ true
unfolding is_inner has
all_inner = refl

or_out : (a b : Bool) → (not a || b) ≡ true → b ≡ false → a ≡ false
or_out true true e h = absurd (false≢true (sym h))
or_out true false e h = absurd (false≢true e)
or_out false b e h = refl

module _ (opp : ℕ) (fits : opp < 2 ^ 64) where
  abbrev inner : ℕ
  inner = bit_and opp INNER

  inner_fits : inner < 2 ^ 64
  inner_fits = omega (arith, and_le_l opp INNER, fits)

  outside : (s : ℕ) → (not (s % 8 == 0) && not (s % 8 == 7)) ≡ false → has inner s ≡ false
  unfolding is_inner
  outside s e =
      elim (cases_lt s 64) [
        | inl l ↦ has-and opp INNER s
            ∙ ap (λ b. has opp s && b) (or_out (has INNER s) (not (s % 8 == 0) && not (s % 8 == 7)) (agree_below_at is_inner (λ _. true) 64 s all_inner l) e)
            ∙ and_no (has opp s)
        | inr g ↦ has-above inner s inner_fits g
      ]
    where
      and_no : (a : Bool) → (a && false) ≡ false
      and_no true = refl
      and_no false = refl

  not_first : (s : ℕ) → s % 8 ≡ 0 → has inner s ≡ false
  not_first s e = outside s (ap (λ b. not b && not (s % 8 == 7)) (eq-eqb (s % 8) 0 e))

  not_last : (s : ℕ) → s % 8 ≡ 7 → has inner s ≡ false
  not_last s e = outside s (ap (λ b. not (s % 8 == 0) && not b) (eq-eqb (s % 8) 7 e) ∙ and_no (not (s % 8 == 0)))
    where
      and_no : (a : Bool) → (a && false) ≡ false
      and_no true = refl
      and_no false = refl

  -- where the lines begin
  starts : (source i : ℕ) → has (bit_and inner (source * 2 ^ 1 % 2 ^ 64)) i ≡ (has inner i && is_next east (has source) i)
  starts source i =
      has-and inner (source * 2 ^ 1 % 2 ^ 64) i
      ∙ elim (cases_Bool (has inner i)) [
        | inl t ↦ ap (λ b. has inner i && b) (shifted i t)
        | inr f ↦ none_of (has inner i) (has (source * 2 ^ 1 % 2 ^ 64) i) f ∙ sym (none_of (has inner i) (is_next east (has source) i) f)
      ]
    where
      shifted : (i : ℕ) → has inner i ≡ true → has (source * 2 ^ 1 % 2 ^ 64) i ≡ is_next east (has source) i
      shifted zero t = absurd (false≢true (sym (not_first 0 refl) ∙ t))
      shifted (suc r) t =
          elim (cases_lt (suc r) 64) [
            | inl l ↦
                let back : suc r - 1 ≡ r = omega arith in
                has-shl_high source 1 (suc r) l (omega arith) ∙ ap (has source) back
                ∙ sym (further_east (has source) r (λ z. false≢true (sym (not_first (suc r) z) ∙ t)))
            | inr g ↦ absurd (false≢true (sym (has-above inner (suc r) inner_fits g) ∙ t))
          ]

no_more : (x : ℕ) → x ≡ x + bit false
unfolding bit
no_more x = omega arith

pub past_east : (source opp : ℕ) → opp < 2 ^ 64 → (t : ℕ) → t < 64 → has opp t ≡ false →
    has (bit_and opp INNER + bit_and (bit_and opp INNER) (source * 2 ^ 1 % 2 ^ 64)) t ≡ is_next east (is_on_line 6 east (has source) (has (bit_and opp INNER))) t
past_east source opp fits t l free =
    ap (λ w. has w t) (no_more (bit_and opp INNER + bit_and (bit_and opp INNER) (source * 2 ^ 1 % 2 ^ 64)))
    ∙ sum_has t (bit_and opp INNER) (bit_and (bit_and opp INNER) (source * 2 ^ 1 % 2 ^ 64)) (has (bit_and opp INNER))
    (λ i. has (bit_and opp INNER) i && is_next east (has source) i) false (λ i. refl) (starts opp fits source)
    (λ i e. (and_parts (has (bit_and opp INNER) i) (is_next east (has source) i) e).0)
    (has-and opp INNER t ∙ ap (λ b. b && has INNER t) free)
    ∙ carries (has source) (has (bit_and opp INNER)) (not_first opp fits) (not_last opp fits) 6 t (omega arith)
