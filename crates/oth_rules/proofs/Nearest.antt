-- The lowest and the highest square of a word, and what is outflanked before it.
use Rattle.std.proofs.Common.{◌≡◌, ℕ, suc, ◌+◌, ◌-◌, ◌*◌, ◌/◌, ◌%◌, ◌^◌, ◌<◌, ◌≤◌, Bool, true, false, not, eqb, ◌&&◌, List, [], refl, sym, ap, ◌∙◌, subst, inl, inr, arith}
use Rattle.std.specs.Prelude.{◌≢◌, bit_and, bit_or, nat_lt}
use Rattle.std.specs.Int.{bit_at, trailing_zeros, leading_zeros, w64}
use Rattle.std.specs.Int.Count.{leading_unique}
use Rattle.std.proofs.lemmas.Bool.{cases_lt, cases_eq, eq-eqb, lt-ltb, le-ltb, ltb-true, eqb-true, ne_eqb, and_parts, false≢true}
use Rattle.std.proofs.lemmas.Nat.{leading_length, leading_top, and_comm, and_le_l, and_le_r, or_lt, pow_pos, le_or_l, le_or_r, mod_below, pow_below}
use Rattle.std.proofs.lemmas.Nat.Bits.{bit_at-trailing_zeros, bit_at_cat_high, bit_at_cat_low, bit_at_above, bit_at-suc, bit_at_lowest, bit_at_ones, bit_at_ones_above, bit_at_mask_inside}
use Rattle.std.proofs.lemmas.Nat.Bits.{bit_at_mask_below, same_from_bits_below, and_pow, bit_at-zero}
use Rattle.oth_rules.specs.Square.{has, word_of, is_in}
use Rattle.oth_rules.specs.Position.{Position, IsBoard, is_mine, is_theirs}
use Rattle.oth_rules.specs.Move.{outflanked}
use Rattle.oth_rules.specs.Line.{rising, falling}
use Rattle.oth_rules.proofs.Bits.{has-and, has-not, has-zero, has-pow, is_word_of, same_word}
use Rattle.oth_rules.proofs.Positions.{is_mine-has, is_theirs-has}
use Rattle.oth_rules.proofs.Lines.{and_turn}
use Rattle.oth_rules.proofs.Words.{some_square}
use Rattle.oth_rules.proofs.Fronts.{is_ordered, IsNearest, all_theirs, open_line, outflanked_at, not_outflanked_at, is_below, is_above, rising-ordered, rising-lt, in_rising, falling-ordered}
use Rattle.oth_rules.proofs.Fronts.{falling-lt, in_falling}

-- k is the word's first square
pub record IsFirst (before : ℕ → ℕ → Bool) (w k : ℕ) : Type 0 where
  pub within : k < 64
  pub there : has w k ≡ true
  pub earlier : (q : ℕ) → before q k ≡ true → has w q ≡ false

not_one : (x : ℕ) → x ≡ 0 → eqb x 1 ≡ false
not_one x e = rw e refl

pub lowest_first : (w : ℕ) → 0 < w → w < 2 ^ 64 → IsFirst is_below w (trailing_zeros w64 w)
unfolding has is_below
lowest_first w h l =
    let k = bit_at-trailing_zeros w64 w h l in
    record {
      within = k.0;
      there = eq-eqb (bit_at w (trailing_zeros w64 w)) 1 k.1;
      earlier = λ q b. not_one (bit_at w q) (k.2 q (ltb-true q (trailing_zeros w64 w) b));
    }

-- the trailing zeros of a word lead to its least square
pub least_square : (w : ℕ) → w ≢ 0 → w < 2 ^ 64 → (has w (trailing_zeros w64 w) ≡ true) × ((s : ℕ) → s < trailing_zeros w64 w → has w s ≡ false)
unfolding is_below
least_square w h l = let first = lowest_first w (omega arith) l in (first.there, λ s b. first.earlier s (lt-ltb s (trailing_zeros w64 w) b))

top_there : (w j : ℕ) → 2 ^ j ≤ w → w < 2 ^ suc j → bit_at w j ≡ 1
top_there w j a b =
    let split : w ≡ 1 * 2 ^ j + (w - 2 ^ j) = omega (arith, a) in
    let rest : w - 2 ^ j < 2 ^ j = omega (arith, a, b, doubled j) in
    ap (λ x. bit_at x j) split ∙ bit_at_cat_high 1 j (w - 2 ^ j) j rest (omega arith) ∙ ap (bit_at 1) (self_sub j)
  where
    doubled : (n : ℕ) → 2 ^ suc n ≡ 2 * 2 ^ n
    doubled n = omega arith

    self_sub : (n : ℕ) → n - n ≡ 0
    self_sub n = omega arith

pub highest_first : (w : ℕ) → 0 < w → w < 2 ^ 64 → IsFirst is_above w (63 - leading_zeros w64 w)
unfolding has is_above
highest_first w h l =
    let k = leading_top 64 w h l in
    let e : k.0 ≡ 63 - leading_zeros w64 w = omega (arith, k.1) in
    subst (IsFirst (λ a b. nat_lt b a) w) e (record {
      within = omega (arith, k.1);
      there = eq-eqb (bit_at w k.0) 1 (top_there w k.0 k.2 k.3);
      earlier = λ q b. not_one (bit_at w q) (bit_at_above w (suc k.0) q k.3 (ltb-true k.0 q b));
    })

-- ---- the highest square alone

leading_or_one : (w : ℕ) → 0 < w → w < 2 ^ 64 → leading_zeros w64 (bit_or w 1) ≡ leading_zeros w64 w
leading_or_one w h l =
    let k = leading_length 64 w l in
    sym (leading_unique 64 (bit_or w 1) (leading_zeros w64 w) k.0 k.1
    (or_lt k.0 w 1 k.2 (omega (arith, h, k.2))) (omega (arith, k.3, le_or_l w 1)))

pub leading_under : (w : ℕ) → w < 2 ^ 64 → leading_zeros w64 (bit_or w 1) < 64
leading_under w l =
    let k = leading_top 64 (bit_or w 1) (omega (arith, le_or_r w 1)) (or_lt 64 w 1 l (omega arith)) in
    omega (arith, k.1)

pow_alone : (w j : ℕ) → has w j ≡ true → bit_and (2 ^ j) w ≡ 2 ^ j
unfolding has
pow_alone w j e = and_comm (2 ^ j) w ∙ and_pow w j ∙ ap (λ x. x * 2 ^ j) (eqb-true (bit_at w j) 1 e) ∙ omega arith

pub highest_alone : (w : ℕ) → 0 < w → w < 2 ^ 64 → bit_and (2 ^ (63 - leading_zeros w64 (bit_or w 1))) w ≡ 2 ^ (63 - leading_zeros w64 w)
highest_alone w h l =
    ap (λ z. bit_and (2 ^ (63 - z)) w) (leading_or_one w h l)
    ∙ pow_alone w (63 - leading_zeros w64 w) (highest_first w h l).there

-- ---- the lowest square alone

-- below the lowest square, a word has only zeros
zeros_below : (w t : ℕ) → ((i : ℕ) → i < t → bit_at w i ≡ 0) → w ≡ w / 2 ^ t * 2 ^ t
zeros_below w t z =
    let split : w ≡ w / 2 ^ t * 2 ^ t + w % 2 ^ t = omega (arith, pow_pos t) in
    let none : w % 2 ^ t ≡ 0 = same_from_bits_below t (w % 2 ^ t) 0 (mod_below w (2 ^ t) (pow_pos t)) (pow_pos t)
    (λ i l. sym (bit_at_cat_low (w / 2 ^ t) t (w % 2 ^ t) i l) ∙ ap (λ x. bit_at x i) (sym split) ∙ z i l ∙ sym (bit_at-zero i)) in
    omega (arith, split, none)

odd_less : (m i : ℕ) → m % 2 ≡ 1 → bit_at (m - 1) (suc i) ≡ bit_at m (suc i)
odd_less m i o = bit_at-suc (m - 1) i ∙ ap (λ x. bit_at x i) (halves m o) ∙ sym (bit_at-suc m i)
  where
    halves : (m : ℕ) → m % 2 ≡ 1 → (m - 1) / 2 ≡ m / 2
    halves m o = omega (arith, o)

-- taking one away from m * 2 ^ t, m odd, takes bit t away and changes no bit above it
module _ (m t : ℕ) (odd : m % 2 ≡ 1) where
  one_less : m * 2 ^ t - 1 ≡ (m - 1) * 2 ^ t + (2 ^ t - 1)
  one_less = let k : (m - 1) + 1 ≡ m = omega (arith, odd) in
      ap (λ x. x * 2 ^ t - 1) (sym k) ∙ spread (m - 1) (2 ^ t) (pow_pos t)
    where
      spread : (x y : ℕ) → 0 < y → (x + 1) * y - 1 ≡ x * y + (y - 1)
      spread x y h = grind arith

  ones_fit : 2 ^ t - 1 < 2 ^ t
  ones_fit = omega (arith, pow_pos t)

  less_high : (i : ℕ) → t ≤ i → bit_at (m * 2 ^ t - 1) i ≡ bit_at (m - 1) (i - t)
  less_high i l = ap (λ x. bit_at x i) one_less ∙ bit_at_cat_high (m - 1) t (2 ^ t - 1) i ones_fit l

  less_at : bit_at (m * 2 ^ t - 1) t ≡ 0
  less_at = less_high t (omega arith) ∙ ap (bit_at (m - 1)) (self_sub t) ∙ bit_at_lowest (m - 1) ∙ even m odd
    where
      self_sub : (n : ℕ) → n - n ≡ 0
      self_sub n = omega arith

      even : (m : ℕ) → m % 2 ≡ 1 → (m - 1) % 2 ≡ 0
      even m o = omega (arith, o)

  less_above : (i : ℕ) → t < i → bit_at (m * 2 ^ t - 1) i ≡ bit_at (m * 2 ^ t) i
  less_above i l =
      less_high i (omega arith)
      ∙ ap (bit_at (m - 1)) (past t i l) ∙ odd_less m (i - t - 1) odd ∙ ap (bit_at m) (sym (past t i l))
      ∙ sym (bit_at_cat_high m t 0 i (pow_pos t) (omega arith)) ∙ ap (λ x. bit_at x i) (plus_zero (m * 2 ^ t))
    where
      past : (t i : ℕ) → t < i → i - t ≡ suc (i - t - 1)
      past t i l = omega arith

      plus_zero : (x : ℕ) → x + 0 ≡ x
      plus_zero x = omega arith

taken : (a b : Bool) → a ≡ b → (a && not b) ≡ false
taken true b e = ap not (sym e)
taken false b e = refl

module _ (w : ℕ) (h : 0 < w) (l : w < 2 ^ 64) where
  abbrev place : ℕ
  place = trailing_zeros w64 w

  multiple : w ≡ w / 2 ^ place * 2 ^ place
  multiple = zeros_below w place (bit_at-trailing_zeros w64 w h l).2

  less_has : (q : ℕ) → place < q → has (w - 1) q ≡ has w q
  unfolding has
  less_has q b =
      ap (λ x. eqb (bit_at (x - 1) q) 1) multiple
      ∙ ap (λ x. eqb x 1) (less_above (w / 2 ^ place) place (bit_at-trailing_zeros w64 w h l).1 q b)
      ∙ ap (λ x. eqb (bit_at x q) 1) (sym multiple)

  less_has_not : has (w - 1) place ≡ false
  unfolding has
  less_has_not =
      ap (λ x. eqb (bit_at (x - 1) place) 1) multiple
      ∙ not_one (bit_at (w / 2 ^ place * 2 ^ place - 1) place) (less_at (w / 2 ^ place) place (bit_at-trailing_zeros w64 w h l).1)

  kept : (q : ℕ) → (has w q && not (has (w - 1) q)) ≡ eqb place q
  unfolding is_below
  kept q =
      elim (cases_eq q place) [
        | inl e ↦ ap (λ x. has w x && not (has (w - 1) x)) e
            ∙ ap (λ b. b && not (has (w - 1) place)) (lowest_first w h l).there
            ∙ ap not less_has_not ∙ sym (eq-eqb place q (sym e))
        | inr n ↦ elim (cases_lt q place) [
          | inl under ↦ ap (λ b. b && not (has (w - 1) q)) ((lowest_first w h l).earlier q (lt-ltb q place under))
          | inr over ↦ taken (has w q) (has (w - 1) q) (sym (less_has q (omega (arith, over, n))))
        ] ∙ sym (ne_eqb place q (λ e. n (sym e)))
      ]

  pub lowest_alone : bit_and w (2 ^ 64 - 1 - (w - 1)) ≡ 2 ^ trailing_zeros w64 w
  lowest_alone =
      same_word (bit_and w (2 ^ 64 - 1 - (w - 1))) (2 ^ place) (omega (arith, and_le_l w (2 ^ 64 - 1 - (w - 1)), l)) (pow_below place 64 (lowest_first w h l).within)
      (λ q k. has-and w (2 ^ 64 - 1 - (w - 1)) q
      ∙ ap (λ b. has w q && b) (has-not (w - 1) q (omega (arith, l)) k)
      ∙ kept q ∙ sym (has-pow place q))

-- ---- what is outflanked along a line

module _ (before : ℕ → ℕ → Bool) (back : (a b : ℕ) → before a b ≡ true → before b a ≡ false) (p : Position) (board : IsBoard p)
    (line : List ℕ) (ray nearest k : ℕ) (ordered : is_ordered before line ≡ true)
    (fits : ray < 2 ^ 64) (inside : (q : ℕ) → is_in line q ≡ true → q < 64) (line_is : (q : ℕ) → q < 64 → is_in line q ≡ has ray q)
    (none : bit_and ray (2 ^ 64 - 1 - p.opp) ≡ 0 → nearest ≡ 0) (some : 0 < bit_and ray (2 ^ 64 - 1 - p.opp) → nearest ≡ 2 ^ k)
    (first : 0 < bit_and ray (2 ^ 64 - 1 - p.opp) → IsFirst before (bit_and ray (2 ^ 64 - 1 - p.opp)) k) where
  free : (q : ℕ) → q < 64 → has (bit_and ray (2 ^ 64 - 1 - p.opp)) q ≡ (has ray q && not (is_theirs p q))
  free q l = has-and ray (2 ^ 64 - 1 - p.opp) q ∙ ap (λ b. has ray q && b) (has-not p.opp q board.opp_fits l ∙ ap not (sym (is_theirs-has p board q)))

  theirs_if : (a b : Bool) → a ≡ true → (a && not b) ≡ false → b ≡ true
  theirs_if true true e h = refl
  theirs_if true false e h = sym h
  theirs_if false b e h = absurd (false≢true e)

  not_theirs : (b : Bool) → not b ≡ true → b ≡ false
  not_theirs true h = sym h
  not_theirs false h = refl

  theirs_at : (q : ℕ) → is_in line q ≡ true → has (bit_and ray (2 ^ 64 - 1 - p.opp)) q ≡ false → is_theirs p q ≡ true
  theirs_at q i e =
      let l = inside q i in
      theirs_if (has ray q) (is_theirs p q) (sym (line_is q l) ∙ i) (sym (free q l) ∙ e)

  is_nearest : 0 < bit_and ray (2 ^ 64 - 1 - p.opp) → IsNearest before p k line
  is_nearest h =
      let f = first h in
      let both = and_parts (has ray k) (not (is_theirs p k)) (sym (free k f.within) ∙ f.there) in
      record {
        there = line_is k f.within ∙ both.0;
        other = not_theirs (is_theirs p k) both.1;
        earlier = λ q i b. theirs_at q i (f.earlier q b);
      }

  closing : 0 < bit_and ray (2 ^ 64 - 1 - p.opp) → (q : ℕ) → has (bit_and nearest p.own) q ≡ (eqb k q && has p.own q)
  closing h q = has-and nearest p.own q ∙ ap (λ b. b && has p.own q) (ap (λ w. has w q) (some h) ∙ has-pow k q)

  nothing : outflanked p line ≡ [] → 0 ≡ word_of (is_in (outflanked p line))
  unfolding is_in
  nothing e = is_word_of 0 (is_in (outflanked p line)) (omega arith) (λ q _. has-zero q ∙ ap (λ xs. is_in xs q) (sym e))

  pub open_ray : bit_and nearest p.own ≡ 0 → 0 ≡ word_of (is_in (outflanked p line))
  open_ray e =
      elim (cases_eq (bit_and ray (2 ^ 64 - 1 - p.opp)) 0) [
        | inl z ↦ nothing (open_line p line (all_theirs p line (λ q i. theirs_at q i (ap (λ w. has w q) z ∙ has-zero q))))
        | inr n ↦
            let h : 0 < bit_and ray (2 ^ 64 - 1 - p.opp) = omega (arith, n) in
            nothing (not_outflanked_at before back p k line ordered (is_nearest h)
            (is_mine-has p k ∙ ap (λ b. b && has p.own k) (sym (eq-eqb k k refl)) ∙ sym (closing h k) ∙ ap (λ w. has w k) e ∙ has-zero k))
      ]

  some_free : 0 < bit_and nearest p.own → 0 < bit_and ray (2 ^ 64 - 1 - p.opp)
  some_free h = elim (cases_eq (bit_and ray (2 ^ 64 - 1 - p.opp)) 0) [
    | inl z ↦ absurd (omega (arith, h, none z, and_le_l nearest p.own))
    | inr n ↦ omega (arith, n)
  ]

  pub closing_is : 0 < bit_and nearest p.own → bit_and nearest p.own ≡ 2 ^ k
  closing_is h =
      let s = some_square (bit_and nearest p.own) h (omega (arith, and_le_r nearest p.own, board.own_fits)) in
      let both = and_parts (eqb k s.0) (has p.own s.0) (sym (closing (some_free h) s.0) ∙ s.2) in
      ap (λ n. bit_and n p.own) (some (some_free h)) ∙ pow_alone p.own k (ap (has p.own) (eqb-true k s.0 both.0) ∙ both.1)

  pub closed_ray : (mask : ℕ) → (0 < bit_and ray (2 ^ 64 - 1 - p.opp) → (q : ℕ) → q < 64 → has mask q ≡ before q k) → 0 < bit_and nearest p.own → bit_and mask ray ≡ word_of (is_in (outflanked p line))
  closed_ray mask m h =
      let free_some = some_free h in
      let s = some_square (bit_and nearest p.own) h (omega (arith, and_le_r nearest p.own, board.own_fits)) in
      let both = and_parts (eqb k s.0) (has p.own s.0) (sym (closing free_some s.0) ∙ s.2) in
      let mine : is_mine p k ≡ true = is_mine-has p k ∙ ap (has p.own) (eqb-true k s.0 both.0) ∙ both.1 in
      is_word_of (bit_and mask ray) (is_in (outflanked p line)) (omega (arith, and_le_r mask ray, fits))
      (λ q l. has-and mask ray q
      ∙ ap (λ b. b && has ray q) (m free_some q l)
      ∙ and_turn (before q k) (has ray q)
      ∙ ap (λ b. b && before q k) (sym (line_is q l))
      ∙ sym (outflanked_at before back p k line ordered (is_nearest free_some) mine q))

below_back : (a b : ℕ) → is_below a b ≡ true → is_below b a ≡ false
unfolding is_below
below_back a b e = le-ltb b a (let l = ltb-true a b e in omega arith)

above_back : (a b : ℕ) → is_above a b ≡ true → is_above b a ≡ false
unfolding is_above
above_back a b e = le-ltb a b (let l = ltb-true b a e in omega arith)

-- the squares below square k
has-ones : (k q : ℕ) → has (2 ^ k - 1) q ≡ is_below q k
unfolding has is_below
has-ones k q =
    elim (cases_lt q k) [
      | inl l ↦ eq-eqb (bit_at (2 ^ k - 1) q) 1 (bit_at_ones k q l) ∙ sym (lt-ltb q k l)
      | inr g ↦ not_one (bit_at (2 ^ k - 1) q) (bit_at_ones_above k q g) ∙ sym (le-ltb q k g)
    ]

-- twice 2 ^ k, negated as the code does
negated_twice : (k : ℕ) → k < 64 → (2 ^ 64 - 2 ^ k * 2 ^ 1 % 2 ^ 64) % 2 ^ 64 ≡ 2 ^ 64 - 2 ^ suc k
negated_twice k l =
    elim (cases_eq k 63) [
      | inl e ↦ at_top k e
      | inr n ↦ under k (pow_below (suc k) 64 (omega (arith, l, n))) (pow_pos k)
    ]
  where
    at_top : (k : ℕ) → k ≡ 63 → (2 ^ 64 - 2 ^ k * 2 ^ 1 % 2 ^ 64) % 2 ^ 64 ≡ 2 ^ 64 - 2 ^ suc k
    at_top k e = rw e refl

    under : (k : ℕ) → 2 ^ suc k < 2 ^ 64 → 0 < 2 ^ k → (2 ^ 64 - 2 ^ k * 2 ^ 1 % 2 ^ 64) % 2 ^ 64 ≡ 2 ^ 64 - 2 ^ suc k
    under k s p = omega (arith, s, p)

-- the squares above square k
has-beyond : (k q : ℕ) → k < 64 → q < 64 → has ((2 ^ 64 - 2 ^ k * 2 ^ 1 % 2 ^ 64) % 2 ^ 64) q ≡ is_above q k
unfolding has is_above
has-beyond k q lk lq =
    ap (λ x. eqb (bit_at x q) 1) (negated_twice k lk)
    ∙ elim (cases_lt k q) [
      | inl l ↦ eq-eqb (bit_at (2 ^ 64 - 2 ^ suc k) q) 1 (bit_at_mask_inside (suc k) 64 q l lq) ∙ sym (lt-ltb k q l)
      | inr g ↦ not_one (bit_at (2 ^ 64 - 2 ^ suc k) q) (bit_at_mask_below (suc k) 64 q (omega (arith, g))) ∙ sym (le-ltb k q g)
    ]

nothing_in : (ray : ℕ) → bit_and 0 ray ≡ 0
nothing_in ray = omega (arith, and_le_l 0 ray)

module _ (p : Position) (board : IsBoard p) (ray nearest : ℕ) (fits : ray < 2 ^ 64) (none : bit_and ray (2 ^ 64 - 1 - p.opp) ≡ 0 → nearest ≡ 0) where
  abbrev spare : ℕ
  spare = bit_and ray (2 ^ 64 - 1 - p.opp)

  spare_fits : spare < 2 ^ 64
  spare_fits = omega (arith, and_le_l ray (2 ^ 64 - 1 - p.opp), fits)

  module _ (some : 0 < bit_and ray (2 ^ 64 - 1 - p.opp) → nearest ≡ 2 ^ trailing_zeros w64 (bit_and ray (2 ^ 64 - 1 - p.opp))) where
    pub outflanked_up : bit_and (bit_and nearest p.own - 1) ray ≡ word_of (is_in (outflanked p (rising ray)))
    outflanked_up =
        elim (cases_eq (bit_and nearest p.own) 0) [
          | inl z ↦ ap (λ x. bit_and (x - 1) ray) z ∙ nothing_in ray
              ∙ open_ray is_below below_back p board (rising ray) ray nearest (trailing_zeros w64 spare) (rising-ordered ray) fits
              (rising-lt ray) (in_rising ray) none some (λ h. lowest_first spare h spare_fits) z
          | inr n ↦
              let h : 0 < bit_and nearest p.own = omega (arith, n) in
              closed_ray is_below below_back p board (rising ray) ray nearest (trailing_zeros w64 spare) (rising-ordered ray) fits
              (rising-lt ray) (in_rising ray) none some (λ h. lowest_first spare h spare_fits)
              (bit_and nearest p.own - 1)
              (λ _ q l.
              ap (λ x. has (x - 1) q)
              (closing_is is_below below_back p board (rising ray) ray nearest (trailing_zeros w64 spare) (rising-ordered ray)
              fits (rising-lt ray) (in_rising ray) none some (λ h. lowest_first spare h spare_fits) h)
              ∙ has-ones (trailing_zeros w64 spare) q)
              h
        ]

  module _ (some : 0 < bit_and ray (2 ^ 64 - 1 - p.opp) → nearest ≡ 2 ^ (63 - leading_zeros w64 (bit_and ray (2 ^ 64 - 1 - p.opp)))) where
    pub outflanked_down : bit_and ((2 ^ 64 - bit_and nearest p.own * 2 ^ 1 % 2 ^ 64) % 2 ^ 64) ray ≡ word_of (is_in (outflanked p (falling ray)))
    outflanked_down =
        elim (cases_eq (bit_and nearest p.own) 0) [
          | inl z ↦ ap (λ x. bit_and ((2 ^ 64 - x * 2 ^ 1 % 2 ^ 64) % 2 ^ 64) ray) z ∙ nothing_in ray
              ∙ open_ray is_above above_back p board (falling ray) ray nearest (63 - leading_zeros w64 spare) (falling-ordered ray) fits
              (falling-lt ray) (in_falling ray) none some (λ h. highest_first spare h spare_fits) z
          | inr n ↦
              let h : 0 < bit_and nearest p.own = omega (arith, n) in
              closed_ray is_above above_back p board (falling ray) ray nearest (63 - leading_zeros w64 spare) (falling-ordered ray) fits
              (falling-lt ray) (in_falling ray) none some (λ h. highest_first spare h spare_fits)
              ((2 ^ 64 - bit_and nearest p.own * 2 ^ 1 % 2 ^ 64) % 2 ^ 64)
              (λ f q l.
              ap (λ x. has ((2 ^ 64 - x * 2 ^ 1 % 2 ^ 64) % 2 ^ 64) q)
              (closing_is is_above above_back p board (falling ray) ray nearest (63 - leading_zeros w64 spare)
              (falling-ordered ray) fits (falling-lt ray) (in_falling ray) none some
              (λ h. highest_first spare h spare_fits) h)
              ∙ has-beyond (63 - leading_zeros w64 spare) q (highest_first spare f spare_fits).within l)
              h
        ]
