-- How many squares a set has, and how the counts of a position change.
use Rattle.std.proofs.Common.{◌≡◌, ℕ, zero, suc, ◌+◌, ◌*◌, ◌<◌, ◌≤◌, ◌^◌, Bool, true, false, not, cond, ◌&&◌, ◌||◌, List, [], ◌∷◌, ◌++◌, refl, sym, ap, ◌∙◌, inl, inr, arith}
use Rattle.std.specs.Prelude.{count_by, count_ones, ◌==◌, if◌then◌else◌}
use Rattle.std.specs.Int.Count.{ones}
use Rattle.std.specs.List.{list_any, range_with_len}
use Rattle.std.proofs.lemmas.Bool.{cases_Bool, cases_eq, eq-eqb, ne_eqb, eqb-true, and_parts, or_cases, false≢true}
use Rattle.std.proofs.lemmas.Nat.{ones_cat}
use Rattle.std.proofs.lemmas.List.Sums.{sum_by-append}
use Rattle.oth_rules.specs.Square.{word_of, word_below, squares, is_in, directions, ray}
use Rattle.oth_rules.specs.Position.{Position, Cell, Mine, Theirs, Empty, cell, is_mine, is_theirs, is_empty, is_mine_cell, is_theirs_cell}
use Rattle.oth_rules.specs.Position.{is_empty_cell, position_of, opposite_cell, pass, mine_count, theirs_count, empty_count}
use Rattle.oth_rules.specs.Move.{outflanked, flipped_along, is_flipped, is_legal, after}
use Rattle.oth_rules.proofs.Bits.{word_below-lt}
use Rattle.oth_rules.proofs.Rays.{front, is_closed, outflanked-is, in_front}
use Rattle.oth_rules.proofs.Legal.{any_gives}
use Rattle.oth_rules.proofs.Positions.{cell-position_of, after-is}
use Rattle.oth_rules.proofs.Words.{legal_empty}

-- how many of the squares below n are in the set
unfoldable pub count_upto : ℕ → (ℕ → Bool) → ℕ
count_upto zero f = 0
count_upto (suc n) f = cond (f n) 1 0 + count_upto n f

pub range-more : (a n : ℕ) → range_with_len a (suc n) ≡ range_with_len a n ++ (a + n) ∷ []
range-more a zero = ap (λ x. x ∷ []) (plus_zero a)
  where
    plus_zero : (x : ℕ) → x ≡ x + 0
    plus_zero x = omega arith
range-more a (suc n) = ap (λ xs. a ∷ xs) (range-more (a + 1) n ∙ ap (λ x. range_with_len (a + 1) n ++ x ∷ []) (shift a n))
  where
    shift : (x y : ℕ) → (x + 1) + y ≡ x + suc y
    shift x y = omega arith

count_by-range : (f : ℕ → Bool) (n : ℕ) → count_by f (range_with_len 0 n) ≡ count_upto n f
unfolding count_upto
count_by-range f zero = refl
count_by-range f (suc n) =
    ap (count_by f) (range-more 0 n)
    ∙ sum_by-append (λ x. cond (f x) 1 0) (range_with_len 0 n) ((0 + n) ∷ [])
    ∙ one (0 + n) n (zero_plus n) (count_by f (range_with_len 0 n)) (count_upto n f) (count_by-range f n)
  where
    zero_plus : (x : ℕ) → 0 + x ≡ x
    zero_plus x = omega arith

    one : (m k : ℕ) → m ≡ k → (x y : ℕ) → x ≡ y → x + (0 + cond (f m) 1 0) ≡ cond (f k) 1 0 + y
    one m k e x y h = rw e (omega (arith, h))

pub count_by-squares : (f : ℕ → Bool) → count_by f squares ≡ count_upto 64 f
unfolding squares
count_by-squares f = count_by-range f 64

ones-top : (n x : ℕ) (b : Bool) → x < 2 ^ n → count_ones ((if b then 2 ^ n else 0) + x) ≡ cond b 1 0 + count_ones x
unfolding ones
ones-top n x true l = ap (λ y. count_ones (y + x)) (one_mul (2 ^ n)) ∙ ones_cat n 1 x l
  where
    one_mul : (y : ℕ) → y ≡ 1 * y
    one_mul y = omega arith
ones-top n x false l = ap count_ones (zero_plus x) ∙ sym (zero_plus (count_ones x))
  where
    zero_plus : (y : ℕ) → 0 + y ≡ y
    zero_plus y = omega arith

ones-word_below : (n : ℕ) (f : ℕ → Bool) → count_ones (word_below n f) ≡ count_upto n f
unfolding word_below count_upto ones
ones-word_below zero f = refl
ones-word_below (suc n) f = ones-top n (word_below n f) (f n) (word_below-lt n f) ∙ ap (λ x. cond (f n) 1 0 + x) (ones-word_below n f)

-- the discs of a word are the squares of its set
pub ones-word_of : (f : ℕ → Bool) → count_ones (word_of f) ≡ count_by f squares
unfolding word_of
ones-word_of f = ones-word_below 64 f ∙ sym (count_by-squares f)

pub count_upto-same : (f g : ℕ → Bool) (n : ℕ) → ((s : ℕ) → s < n → f s ≡ g s) → count_upto n f ≡ count_upto n g
unfolding count_upto
count_upto-same f g zero h = refl
count_upto-same f g (suc n) h =
    ap (λ b. cond b 1 0 + count_upto n f) (h n (omega arith)) ∙ ap (λ x. cond (g n) 1 0 + x) (count_upto-same f g n (λ s l. h s (omega arith)))

pub count_by-same : (f g : ℕ → Bool) → ((s : ℕ) → s < 64 → f s ≡ g s) → count_by f squares ≡ count_by g squares
count_by-same f g h = count_by-squares f ∙ count_upto-same f g 64 h ∙ sym (count_by-squares g)

-- one square less
one_less : (a b x y : ℕ) → a ≡ 1 → b ≡ 0 → x ≡ y → a + x ≡ suc (b + y)
one_less a b x y e f h = omega arith

still : (a b x y : ℕ) → a ≡ b → x ≡ suc y → a + x ≡ suc (b + y)
still a b x y e h = omega arith

and_no : (x y : Bool) → y ≡ true → (x && not y) ≡ false
and_no true y e = ap not e
and_no false y e = refl

pub and_keep : (x y : Bool) → y ≡ false → (x && not y) ≡ x
and_keep true y e = ap not e
and_keep false y e = refl

pub count_upto-most : (n : ℕ) (f : ℕ → Bool) → count_upto n f ≤ n
unfolding count_upto
count_upto-most zero f = omega arith
count_upto-most (suc n) f = more (f n) (count_upto n f) n (count_upto-most n f)
  where
    more : (b : Bool) (x m : ℕ) → x ≤ m → cond b 1 0 + x ≤ suc m
    more true x m l = omega (arith, l)
    more false x m l = omega (arith, l)

pub count_most : (f : ℕ → Bool) → count_by f squares ≤ 64
count_most f = omega (arith, count_by-squares f, count_upto-most 64 f)

pub count_upto-without : (f : ℕ → Bool) (s n : ℕ) → s < n → f s ≡ true → count_upto n f ≡ suc (count_upto n (λ q. f q && not (q == s)))
unfolding count_upto
count_upto-without f s zero l e = absurd (omega arith)
count_upto-without f s (suc n) l e =
    elim (cases_eq s n) [
      | inl here ↦ one_less (cond (f n) 1 0) (cond (f n && not (n == s)) 1 0) (count_upto n f) (count_upto n (λ q. f q && not (q == s)))
          (ap (λ b. cond b 1 0) (ap f (sym here) ∙ e))
          (ap (λ b. cond b 1 0) (and_no (f n) (n == s) (eq-eqb n s (sym here))))
          (count_upto-same f (λ q. f q && not (q == s)) n (λ q k. sym (and_keep (f q) (q == s) (ne_eqb q s (λ t. below q k here t)))))
      | inr there ↦ still (cond (f n) 1 0) (cond (f n && not (n == s)) 1 0) (count_upto n f) (count_upto n (λ q. f q && not (q == s)))
          (ap (λ b. cond b 1 0) (sym (and_keep (f n) (n == s) (ne_eqb n s (λ t. there (sym t))))))
          (count_upto-without f s n (omega (arith, there)) e)
    ]
  where
    below : (q : ℕ) → q < n → s ≡ n → q ≡ s → ⊥
    below q k here t = omega arith

-- ---- counts of a position

cell_once : (c : Cell) → cond (is_mine_cell c) 1 0 + cond (is_theirs_cell c) 1 0 + cond (is_empty_cell c) 1 0 ≡ 1
unfolding is_mine_cell is_theirs_cell is_empty_cell
cell_once Mine = refl
cell_once Theirs = refl
cell_once Empty = refl

counts_upto : (p : Position) (n : ℕ) → count_upto n (is_mine p) + count_upto n (is_theirs p) + count_upto n (is_empty p) ≡ n
unfolding count_upto is_mine is_theirs is_empty
counts_upto p zero = refl
counts_upto p (suc n) = omega (arith, counts_upto p n, cell_once (cell p n))

pub counts : (p : Position) → mine_count p + theirs_count p + empty_count p ≡ 64
unfolding mine_count theirs_count empty_count
counts p =
    omega (arith, counts_upto p 64, count_by-squares (is_mine p), count_by-squares (is_theirs p), count_by-squares (is_empty p))

empty_opposite : (c : Cell) → is_empty_cell (opposite_cell c) ≡ is_empty_cell c
unfolding is_empty_cell opposite_cell
empty_opposite Mine = refl
empty_opposite Theirs = refl
empty_opposite Empty = refl

-- a pass leaves the empty squares
pub empty-pass : (p : Position) (s : ℕ) → s < 64 → is_empty (pass p) s ≡ is_empty p s
unfolding pass is_empty
empty-pass p s l = ap is_empty_cell (cell-position_of (λ s. opposite_cell (cell p s)) s l) ∙ empty_opposite (cell p s)

pub empty_count-pass : (p : Position) → empty_count (pass p) ≡ empty_count p
unfolding empty_count pass is_empty
empty_count-pass p =
    count_by-same (is_empty (position_of (λ s. opposite_cell (cell p s)))) (is_empty p)
    (λ s l. ap is_empty_cell (cell-position_of (λ s. opposite_cell (cell p s)) s l) ∙ empty_opposite (cell p s))

nothing_in : (p : Position) (q : ℕ) → is_in (front p []) q ≡ true → ⊥
unfolding front is_in
nothing_in p q e = false≢true e

in_none : (q : ℕ) → is_in [] q ≡ true → ⊥
unfolding is_in
in_none q e = false≢true e

cell_not_empty : (c : Cell) → is_theirs_cell c ≡ true → is_empty_cell c ≡ false
unfolding is_theirs_cell is_empty_cell
cell_not_empty Mine e = refl
cell_not_empty Theirs e = refl
cell_not_empty Empty e = sym e

-- what a front has is theirs
front_theirs : (p : Position) (line : List ℕ) (q : ℕ) → is_in (front p line) q ≡ true → is_theirs p q ≡ true
front_theirs p [] q e = absurd (nothing_in p q e)
front_theirs p (r ∷ rest) q e =
    let both = and_parts (is_theirs p r) ((r == q) || is_in (front p rest) q) (sym (in_front p r rest q) ∙ e) in
    elim (or_cases (r == q) (is_in (front p rest) q) both.1) [
      | inl here ↦ ap (is_theirs p) (sym (eqb-true r q here)) ∙ both.0
      | inr later ↦ front_theirs p rest q later
    ]

outflanked_theirs : (p : Position) (line : List ℕ) (q : ℕ) → is_in (outflanked p line) q ≡ true → is_theirs p q ≡ true
outflanked_theirs p line q e =
    elim (cases_Bool (is_closed p line)) [
      | inl c ↦ front_theirs p line q (sym (ap (λ xs. is_in xs q) (outflanked-is p line ∙ ap (λ b. if b then front p line else []) c)) ∙ e)
      | inr o ↦ absurd (in_none q (sym (ap (λ xs. is_in xs q) (outflanked-is p line ∙ ap (λ b. if b then front p line else []) o)) ∙ e))
    ]

pub flipped_theirs : (p : Position) (s q : ℕ) → is_flipped p s q ≡ true → is_theirs p q ≡ true
unfolding is_flipped flipped_along
flipped_theirs p s q e =
    any_gives (λ d. is_in (outflanked p (ray d s)) q) (is_theirs p q) directions (λ d. outflanked_theirs p (ray d s) q)
    (and_parts (is_empty p s) (list_any (λ d. is_in (outflanked p (ray d s)) q) directions) e).1

pub theirs_not_empty : (p : Position) (q : ℕ) → is_theirs p q ≡ true → is_empty p q ≡ false
unfolding is_theirs is_empty
theirs_not_empty p q e = cell_not_empty (cell p q) e

placed_empty : (a : Bool) (c : Cell) → is_empty_cell (opposite_cell (if a then Mine else c)) ≡ (is_empty_cell c && not a)
unfolding is_empty_cell opposite_cell
placed_empty true Mine = refl
placed_empty true Theirs = refl
placed_empty true Empty = refl
placed_empty false Mine = refl
placed_empty false Theirs = refl
placed_empty false Empty = refl

without_flipped : (e a x : Bool) → (x ≡ true → e ≡ false) → (e && not (a || x)) ≡ (e && not a)
without_flipped e true x h = refl
without_flipped true false true h = absurd (false≢true (sym (h refl)))
without_flipped true false false h = refl
without_flipped false false x h = refl

pub empty_after : (p : Position) (s q : ℕ) → q < 64 → is_empty (after p s) q ≡ (is_empty p q && not (q == s))
unfolding is_empty
empty_after p s q l =
    ap (λ r. is_empty_cell (cell r q)) (after-is p s)
    ∙ ap is_empty_cell (cell-position_of (λ q. opposite_cell (if q == s || is_flipped p s q then Mine else cell p q)) q l)
    ∙ placed_empty (q == s || is_flipped p s q) (cell p q)
    ∙ without_flipped (is_empty_cell (cell p q)) (q == s) (is_flipped p s q) (λ t. theirs_not_empty p q (flipped_theirs p s q t))

-- a move takes an empty square away
pub empty_count-after : (p : Position) (s : ℕ) → s < 64 → is_legal p s ≡ true → empty_count p ≡ suc (empty_count (after p s))
unfolding empty_count
empty_count-after p s l e =
    count_by-squares (is_empty p)
    ∙ count_upto-without (is_empty p) s 64 l (legal_empty p s e)
    ∙ ap suc (sym (count_by-same (is_empty (after p s)) (λ q. is_empty p q && not (q == s)) (empty_after p s) ∙ count_by-squares (λ q. is_empty p q && not (q == s))))
