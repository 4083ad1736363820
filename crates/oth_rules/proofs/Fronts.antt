-- The front of an ordered line: its squares before the nearest one that isn't theirs.
use Rattle.std.proofs.Common.{◌≡◌, ℕ, zero, suc, ◌+◌, ◌<◌, ◌≤◌, Bool, true, false, ◌&&◌, ◌||◌, List, [], ◌∷◌, refl, sym, ap, ◌∙◌, inl, inr, arith}
use Rattle.std.specs.Prelude.{◌==◌, nat_lt, if◌then◌else◌, filter}
use Rattle.std.specs.List.{list_any, list_all, range_with_len}
use Rattle.std.proofs.lemmas.Bool.{cases_Bool, cases_lt, eqb-true, eq-eqb, ne_eqb, lt-ltb, and_parts, and_from, or_cases, false≢true}
use Rattle.oth_rules.specs.Square.{has, squares, is_in}
use Rattle.oth_rules.specs.Position.{Position, is_mine, is_theirs}
use Rattle.oth_rules.specs.Move.{outflanked}
use Rattle.oth_rules.specs.Line.{rising, falling_below, falling}
use Rattle.oth_rules.proofs.Rays.{front, is_closed, front-no, closed-yes, closed-no, in_front, outflanked-is}
use Rattle.oth_rules.proofs.Legal.{any_square, any_picks_square}

-- each square of the line is before all later ones
unfoldable pub is_ordered : (ℕ → ℕ → Bool) → List ℕ → Bool
is_ordered before [] = true
is_ordered before (v ∷ rest) = list_all (before v) rest && is_ordered before rest

in_nothing : (q : ℕ) → is_in [] q ≡ false
unfolding is_in
in_nothing q = refl

all_at : (f : ℕ → Bool) (xs : List ℕ) (q : ℕ) → list_all f xs ≡ true → is_in xs q ≡ true → f q ≡ true
unfolding is_in
all_at f [] q h e = absurd (false≢true e)
all_at f (x ∷ xs) q h e =
    let both = and_parts (f x) (list_all f xs) h in
    elim (or_cases (x == q) (list_any (λ r. r == q) xs) e) [
      | inl here ↦ ap f (sym (eqb-true x q here)) ∙ both.0
      | inr there ↦ all_at f xs q both.1 there
    ]

in_rest : (v : ℕ) (rest : List ℕ) (q : ℕ) → is_in rest q ≡ true → is_in (v ∷ rest) q ≡ true
unfolding is_in
in_rest v rest q e = ap (λ b. (v == q) || b) e ∙ or_yes (v == q)
  where
    or_yes : (a : Bool) → (a || true) ≡ true
    or_yes true = refl
    or_yes false = refl

at_head : (v : ℕ) (rest : List ℕ) → is_in (v ∷ rest) v ≡ true
unfolding is_in
at_head v rest = ap (λ b. b || list_any (λ r. r == v) rest) (eq-eqb v v refl)

in_cases : (v : ℕ) (rest : List ℕ) (q : ℕ) → is_in (v ∷ rest) q ≡ ((v == q) || is_in rest q)
unfolding is_in
in_cases v rest q = refl

or_and : (a b c : Bool) → (a ≡ true → c ≡ true) → (a || (b && c)) ≡ ((a || b) && c)
or_and true b c h = sym (h refl)
or_and false b c h = refl

false_by : (a : Bool) → (a ≡ true → ⊥) → false ≡ a
false_by true h = absurd (h refl)
false_by false h = refl

-- the nearest square of the line that isn't theirs
pub record IsNearest (before : ℕ → ℕ → Bool) (p : Position) (k : ℕ) (line : List ℕ) : Type 0 where
  pub there : is_in line k ≡ true
  pub other : is_theirs p k ≡ false
  pub earlier : (q : ℕ) → is_in line q ≡ true → before q k ≡ true → is_theirs p q ≡ true

-- a line without any such square
pub all_theirs : (p : Position) (line : List ℕ) → ((q : ℕ) → is_in line q ≡ true → is_theirs p q ≡ true) → is_closed p line ≡ false
unfolding is_closed
all_theirs p [] h = refl
all_theirs p (v ∷ rest) h =
    ap (λ b. if b then is_closed p rest else is_mine p v) (h v (at_head v rest)) ∙ all_theirs p rest (λ q e. h q (in_rest v rest q e))

pub open_line : (p : Position) (line : List ℕ) → is_closed p line ≡ false → outflanked p line ≡ []
open_line p line e = outflanked-is p line ∙ ap (λ b. if b then front p line else []) e

module _ (before : ℕ → ℕ → Bool) (back : (a b : ℕ) → before a b ≡ true → before b a ≡ false) (p : Position) (k : ℕ) where
  in_later : (v : ℕ) (rest : List ℕ) → (v == k) ≡ false → is_in (v ∷ rest) k ≡ true → is_in rest k ≡ true
  in_later v rest e h = ap (λ b. b || is_in rest k) (sym e) ∙ sym (in_cases v rest k) ∙ h

  later : (v : ℕ) (rest : List ℕ) → (v == k) ≡ false → IsNearest before p k (v ∷ rest) → IsNearest before p k rest
  later v rest e n = record { there = in_later v rest e n.there; other = n.other; earlier = λ q i. n.earlier q (in_rest v rest q i) }

  before_later : (v : ℕ) (rest : List ℕ) → (v == k) ≡ false → is_ordered before (v ∷ rest) ≡ true → IsNearest before p k (v ∷ rest) → before v k ≡ true
  unfolding is_ordered
  before_later v rest e o n = all_at (before v) rest k (and_parts (list_all (before v) rest) (is_ordered before rest) o).0 (in_later v rest e n.there)

  ordered_rest : (v : ℕ) (rest : List ℕ) → is_ordered before (v ∷ rest) ≡ true → is_ordered before rest ≡ true
  unfolding is_ordered
  ordered_rest v rest o = (and_parts (list_all (before v) rest) (is_ordered before rest) o).1

  theirs_later : (v : ℕ) (rest : List ℕ) → (v == k) ≡ false → is_ordered before (v ∷ rest) ≡ true → IsNearest before p k (v ∷ rest) → is_theirs p v ≡ true
  theirs_later v rest e o n = n.earlier v (at_head v rest) (before_later v rest e o n)

  pub closed_at : (line : List ℕ) → is_ordered before line ≡ true → IsNearest before p k line → is_closed p line ≡ is_mine p k
  closed_at [] o n = absurd (false≢true (sym (in_nothing k) ∙ n.there))
  closed_at (v ∷ rest) o n =
      elim (cases_Bool (v == k)) [
        | inl here ↦ closed-no p v rest (ap (is_theirs p) (eqb-true v k here) ∙ n.other) ∙ ap (is_mine p) (eqb-true v k here)
        | inr away ↦ closed-yes p v rest (theirs_later v rest away o n) ∙ closed_at rest (ordered_rest v rest o) (later v rest away n)
      ]

  not_before : (v q : ℕ) (rest : List ℕ) → v ≡ k → is_ordered before (v ∷ rest) ≡ true → (is_in (v ∷ rest) q && before q k) ≡ true → ⊥
  unfolding is_ordered
  not_before v q rest e o h =
      let both = and_parts (is_in (v ∷ rest) q) (before q k) h in
      elim (or_cases (v == q) (is_in rest q) (sym (in_cases v rest q) ∙ both.0)) [
        | inl same ↦
            let t : before k k ≡ true = ap (λ x. before x k) (sym e ∙ eqb-true v q same) ∙ both.1 in
            false≢true (sym (back k k t) ∙ t)
        | inr there ↦
            let t : before k q ≡ true = ap (λ x. before x q) (sym e) ∙ all_at (before v) rest q (and_parts (list_all (before v) rest) (is_ordered before rest) o).0 there in
            false≢true (sym (back k q t) ∙ both.1)
      ]

  pub front_at : (line : List ℕ) → is_ordered before line ≡ true → IsNearest before p k line → (q : ℕ) → is_in (front p line) q ≡ (is_in line q && before q k)
  front_at [] o n q = absurd (false≢true (sym (in_nothing k) ∙ n.there))
  front_at (v ∷ rest) o n q =
      elim (cases_Bool (v == k)) [
        | inl here ↦
            ap (λ xs. is_in xs q) (front-no p v rest (ap (is_theirs p) (eqb-true v k here) ∙ n.other)) ∙ in_nothing q
            ∙ false_by (is_in (v ∷ rest) q && before q k) (not_before v q rest (eqb-true v k here) o)
        | inr away ↦
            in_front p v rest q
            ∙ ap (λ b. b && ((v == q) || is_in (front p rest) q)) (theirs_later v rest away o n)
            ∙ ap (λ b. (v == q) || b) (front_at rest (ordered_rest v rest o) (later v rest away n) q)
            ∙ or_and (v == q) (is_in rest q) (before q k) (λ e. ap (λ x. before x k) (sym (eqb-true v q e)) ∙ before_later v rest away o n)
            ∙ ap (λ b. b && before q k) (sym (in_cases v rest q))
      ]

  -- closed by a disc of mine
  pub outflanked_at : (line : List ℕ) → is_ordered before line ≡ true → IsNearest before p k line → is_mine p k ≡ true → (q : ℕ) → is_in (outflanked p line) q ≡ (is_in line q && before q k)
  outflanked_at line o n m q =
      ap (λ xs. is_in xs q) (outflanked-is p line ∙ ap (λ b. if b then front p line else []) (closed_at line o n ∙ m)) ∙ front_at line o n q

  pub not_outflanked_at : (line : List ℕ) → is_ordered before line ≡ true → IsNearest before p k line → is_mine p k ≡ false → outflanked p line ≡ []
  not_outflanked_at line o n m = open_line p line (closed_at line o n ∙ m)

-- ---- the squares of a word in order

unfoldable pub is_below : ℕ → ℕ → Bool
is_below a b = nat_lt a b

unfoldable pub is_above : ℕ → ℕ → Bool
is_above a b = nat_lt b a

or_if : (a : Bool) (v q : ℕ) (rest : List ℕ) → is_in (if a then v ∷ rest else rest) q ≡ (((v == q) && a) || is_in rest q)
unfolding is_in
or_if true v q rest = ap (λ b. b || list_any (λ r. r == q) rest) (sym (and_true (v == q)))
  where
    and_true : (b : Bool) → (b && true) ≡ b
    and_true true = refl
    and_true false = refl
or_if false v q rest = ap (λ b. b || list_any (λ r. r == q) rest) (sym (and_no (v == q)))
  where
    and_no : (b : Bool) → (b && false) ≡ false
    and_no true = refl
    and_no false = refl

or_share : (a b x y : Bool) → (a ≡ true → x ≡ y) → ((a && x) || (b && y)) ≡ ((a || b) && y)
or_share true true x true h = ap (λ c. c || true) (h refl)
or_share true true x false h = ap (λ c. c || false) (h refl)
or_share true false x true h = ap (λ c. c || false) (h refl)
or_share true false x false h = ap (λ c. c || false) (h refl)
or_share false b x y h = refl

in_filter : (f : ℕ → Bool) (xs : List ℕ) (q : ℕ) → is_in (filter f xs) q ≡ (is_in xs q && f q)
unfolding is_in
in_filter f [] q = refl
in_filter f (x ∷ xs) q =
    or_if (f x) x q (filter f xs)
    ∙ ap (λ b. ((x == q) && f x) || b) (in_filter f xs q)
    ∙ or_share (x == q) (is_in xs q) (f x) (f q) (λ e. ap f (eqb-true x q e))
    ∙ ap (λ b. b && f q) (sym (in_cases x xs q))

pub in_rising : (w q : ℕ) → q < 64 → is_in (rising w) q ≡ has w q
unfolding rising is_in
in_rising w q l = in_filter (has w) squares q ∙ ap (λ b. b && has w q) (any_square (λ r. r == q) q l (eq-eqb q q refl))

pub rising-lt : (w q : ℕ) → is_in (rising w) q ≡ true → q < 64
unfolding rising is_in
rising-lt w q e =
    let k = any_picks_square (λ r. r == q) (and_parts (is_in squares q) (has w q) (sym (in_filter (has w) squares q) ∙ e)).0 in
    omega (arith, k.1, eqb-true k.0 q k.2)

all_if : (g : ℕ → Bool) (a : Bool) (v : ℕ) (rest : List ℕ) → g v ≡ true → list_all g rest ≡ true → list_all g (if a then v ∷ rest else rest) ≡ true
all_if g true v rest h e = ap (λ b. b && list_all g rest) h ∙ e
all_if g false v rest h e = e

ordered_if : (before : ℕ → ℕ → Bool) (a : Bool) (v : ℕ) (rest : List ℕ) → list_all (before v) rest ≡ true → is_ordered before rest ≡ true → is_ordered before (if a then v ∷ rest else rest) ≡ true
unfolding is_ordered
ordered_if before true v rest h e = and_from (list_all (before v) rest) (is_ordered before rest) h e
ordered_if before false v rest h e = e

range_above : (f : ℕ → Bool) (b n a : ℕ) → b < a → list_all (is_below b) (filter f (range_with_len a n)) ≡ true
unfolding is_below
range_above f b zero a l = refl
range_above f b (suc n) a l =
    all_if (is_below b) (f a) a (filter f (range_with_len (a + 1) n)) (lt-ltb b a l) (range_above f b n (a + 1) (omega arith))

range_ordered : (f : ℕ → Bool) (n a : ℕ) → is_ordered is_below (filter f (range_with_len a n)) ≡ true
unfolding is_ordered
range_ordered f zero a = refl
range_ordered f (suc n) a =
    ordered_if is_below (f a) a (filter f (range_with_len (a + 1) n)) (range_above f a n (a + 1) (omega arith)) (range_ordered f n (a + 1))

pub rising-ordered : (w : ℕ) → is_ordered is_below (rising w) ≡ true
unfolding rising squares
rising-ordered w = range_ordered (has w) 64 0

falling_below-lt : (n w q : ℕ) → is_in (falling_below n w) q ≡ true → q < n
unfolding falling_below
falling_below-lt zero w q e = absurd (false≢true (sym (in_nothing q) ∙ e))
falling_below-lt (suc n) w q e =
    elim (or_cases ((n == q) && has w n) (is_in (falling_below n w) q) (sym (or_if (has w n) n q (falling_below n w)) ∙ e)) [
      | inl here ↦ let s = eqb-true n q (and_parts (n == q) (has w n) here).0 in omega arith
      | inr there ↦ let l = falling_below-lt n w q there in omega arith
    ]

not_below_itself : (n w r : ℕ) → r ≡ n → false ≡ is_in (falling_below n w) r
not_below_itself n w r e = false_by (is_in (falling_below n w) r) (λ i. let l = falling_below-lt n w r i in absurd (omega arith))

or_no : (a : Bool) → (a || false) ≡ a
or_no true = refl
or_no false = refl

in_falling_below : (n w q : ℕ) → q < n → is_in (falling_below n w) q ≡ has w q
unfolding falling_below
in_falling_below zero w q l = absurd (omega arith)
in_falling_below (suc n) w q l =
    or_if (has w n) n q (falling_below n w)
    ∙ elim (cases_lt q n) [
      | inl s ↦ ap (λ b. (b && has w n) || is_in (falling_below n w) q) (ne_eqb n q (λ e. lt_not_eq q n s e)) ∙ in_falling_below n w q s
      | inr g ↦ at_top q (omega arith)
    ]
  where
    at_top : (r : ℕ) → r ≡ n → (((n == r) && has w n) || is_in (falling_below n w) r) ≡ has w r
    at_top r e =
        ap (λ b. (b && has w n) || is_in (falling_below n w) r) (eq-eqb n r (sym e))
        ∙ ap (λ b. has w n || b) (sym (not_below_itself n w r e)) ∙ or_no (has w n) ∙ ap (has w) (sym e)

    lt_not_eq : (x y : ℕ) → x < y → y ≡ x → ⊥
    lt_not_eq x y s e = absurd (omega arith)

pub falling-lt : (w q : ℕ) → is_in (falling w) q ≡ true → q < 64
unfolding falling
falling-lt w q e = falling_below-lt 64 w q e

falling_under : (b n w : ℕ) → n ≤ b → list_all (is_above b) (falling_below n w) ≡ true
unfolding is_above falling_below
falling_under b zero w l = refl
falling_under b (suc n) w l =
    all_if (is_above b) (has w n) n (falling_below n w) (lt-ltb n b (omega arith)) (falling_under b n w (omega arith))

falling_below-ordered : (n w : ℕ) → is_ordered is_above (falling_below n w) ≡ true
unfolding is_ordered falling_below
falling_below-ordered zero w = refl
falling_below-ordered (suc n) w =
    ordered_if is_above (has w n) n (falling_below n w) (falling_under n n w (omega arith)) (falling_below-ordered n w)

pub falling-ordered : (w : ℕ) → is_ordered is_above (falling w) ≡ true
unfolding falling
falling-ordered w = falling_below-ordered 64 w

pub in_falling : (w q : ℕ) → q < 64 → is_in (falling w) q ≡ has w q
unfolding falling
in_falling w q l = in_falling_below 64 w q l
