-- The flips of a move to the only empty square by either side, counted along the four lines through it.
use Rattle.std.proofs.Common.{◌≡◌, ℕ, zero, suc, ◌+◌, ◌*◌, ◌/◌, ◌%◌, ◌<◌, ◌≤◌, ◌^◌, Bool, true, false, cond, not, ◌&&◌, ◌||◌, List, [], ◌∷◌, ◌++◌, length, refl, sym, ap, subst, inl, inr, ◌∙◌, arith}
use Rattle.std.specs.Prelude.{if◌then◌else◌, bit_and, nat_lt, ◌==◌, slice_index_or, map, count_by}
use Rattle.std.specs.List.{list_any, list_all}
use Rattle.std.proofs.lemmas.Bool.{cases_Bool, eqb-true, eq-eqb, ltb-true, and_parts, or_cases, agree_below, agree_below_at, false≢true}
use Rattle.std.proofs.lemmas.Nat.{or_disjoint, and_le_l, and_le_r, pow_below}
use Rattle.std.proofs.lemmas.List.{length-append, length-map}
use Rattle.std.proofs.lemmas.List.Folds.{list_all_at}
use Rattle.oth_rules.specs.Square.{Direction, Back, Stay, Forth, has, word_of, next, stepped, square_at, squares, directions, ray_from, ray, is_in}
use Rattle.oth_rules.specs.Position.{Position, IsBoard, Cell, Mine, Theirs, Empty, cell, is_mine, is_theirs, is_empty, is_mine_cell, pass}
use Rattle.oth_rules.specs.Position.{is_theirs_cell, is_empty_cell, opposite_cell, mine_count, theirs_count, empty_count}
use Rattle.oth_rules.specs.Move.{outflanked, flipped_along, is_flipped, is_legal, after}
use Rattle.oth_rules.specs.Line.{reversed}
use Rattle.oth_rules.specs.LastMove.{IsLast, gathered}
use Rattle.oth_rules.specs.declared.tables.line_counts.TheConstants.{LINE_COUNTS, LINE_FACTORS, LINE_STARTS}
use Rattle.oth_rules.specs.declared.tables.line_masks.TheConstants.{LINE_MASKS}
use Rattle.oth_rules.proofs.Bits.{has-and, has-zero, has-pow, has-word_of, word_of-lt, is_word_of, word_of-same}
use Rattle.oth_rules.proofs.Words.{or_word}
use Rattle.oth_rules.proofs.Legal.{any_square, any_picks_square}
use Rattle.oth_rules.proofs.Positions.{is_mine-has, cell-position_of, after-is}
use Rattle.oth_rules.proofs.Rays.{front, is_closed, outflanked-is, in_front, and_false, or_true}
use Rattle.oth_rules.proofs.Counts.{counts, count_upto, count_by-squares, count_upto-same, count_upto-without, count_by-same, flipped_theirs, theirs_not_empty, empty-pass}

-- ---- lists of truth values

-- a property of all lists of n truth values
unfoldable every : ℕ → (List Bool → Bool) → Bool
every zero f = f []
every (suc n) f = every n (λ bs. f (true ∷ bs)) && every n (λ bs. f (false ∷ bs))

every-at : (bs : List Bool) (f : List Bool → Bool) → every (length bs) f ≡ true → f bs ≡ true
unfolding every
every-at [] f e = e
every-at (true ∷ bs) f e = every-at bs (λ xs. f (true ∷ xs)) (and_parts (every (length bs) (λ xs. f (true ∷ xs))) (every (length bs) (λ xs. f (false ∷ xs))) e).0
every-at (false ∷ bs) f e = every-at bs (λ xs. f (false ∷ xs)) (and_parts (every (length bs) (λ xs. f (true ∷ xs))) (every (length bs) (λ xs. f (false ∷ xs))) e).1

-- what holds of every list holds of the truth values of a list of squares
every-map : (g : ℕ → Bool) (qs : List ℕ) (f : List Bool → Bool) → every (length qs) f ≡ true → f (map g qs) ≡ true
every-map g qs f e = every-at (map g qs) f (ap (λ n. every n f) (length-map qs g) ∙ e)

-- the word of those squares of a list that are picked
unfoldable picked : List Bool → List ℕ → ℕ
picked [] qs = 0
picked (b ∷ bs) [] = 0
picked (b ∷ bs) (q ∷ qs) = cond b (2 ^ q) 0 + picked bs qs

-- how many are false before the first that is true
unfoldable before : List Bool → ℕ
before [] = 0
before (b ∷ bs) = if b then 0 else suc (before bs)

unfoldable some : List Bool → Bool
some [] = false
some (b ∷ bs) = if b then true else some bs

-- how many discs are closed in, where those of the mover are the true ones
unfoldable closed_in : List Bool → ℕ
closed_in bs = if some bs then before bs else 0

-- ---- the counts of the table, computed: for each square, all discs along a line

-- what a move flips along both ends of a line: the mover's flips, and 256 times those of the other side if it moves there
unfoldable both_closed : List Bool → List Bool → ℕ
both_closed xs ys = (closed_in xs + closed_in ys) + 256 * (closed_in (map not xs) + closed_in (map not ys))

-- the look at the table for these discs of a line
abbrev look : ℕ → ℕ → ℕ → ℕ
look i s discs =
    slice_index_or LINE_COUNTS (slice_index_or (slice_index_or LINE_STARTS s []) i 0 + gathered discs (slice_index_or (slice_index_or LINE_FACTORS s []) i 0)) 0

unfoldable counts_right : ℕ → Direction → ℕ → Bool
counts_right i d s =
    let up = ray d s in
    let down = ray (reversed d) s in
    let factor = slice_index_or (slice_index_or LINE_FACTORS s []) i 0 in
    let start = slice_index_or (slice_index_or LINE_STARTS s []) i 0 in
    every (length up) (λ xs. every (length down) (λ ys. slice_index_or LINE_COUNTS (start + gathered (picked xs up + picked ys down) factor) 0 == both_closed xs ys))

rows_right : agree_below (counts_right 0 (record { columns = Forth; rows = Stay })) (λ _. true) 64 ≡ true
unfolding counts_right every picked before some closed_in both_closed ray ray_from next stepped square_at
rows_right = refl

falling_right : agree_below (counts_right 1 (record { columns = Forth; rows = Forth })) (λ _. true) 64 ≡ true
unfolding counts_right every picked before some closed_in both_closed ray ray_from next stepped square_at
falling_right = refl

columns_right : agree_below (counts_right 2 (record { columns = Stay; rows = Forth })) (λ _. true) 64 ≡ true
unfolding counts_right every picked before some closed_in both_closed ray ray_from next stepped square_at
columns_right = refl

rising_right : agree_below (counts_right 3 (record { columns = Back; rows = Forth })) (λ _. true) 64 ≡ true
unfolding counts_right every picked before some closed_in both_closed ray ray_from next stepped square_at
rising_right = refl

counts_at : (i : ℕ) (d : Direction) (s : ℕ) (g : ℕ → Bool) → agree_below (counts_right i d) (λ _. true) 64 ≡ true → s < 64 →
    look i s (picked (map g (ray d s)) (ray d s) + picked (map g (ray (reversed d) s)) (ray (reversed d) s))
    ≡ both_closed (map g (ray d s)) (map g (ray (reversed d) s))
unfolding counts_right
counts_at i d s g computed l =
    let up = ray d s in
    let down = ray (reversed d) s in
    let factor = slice_index_or (slice_index_or LINE_FACTORS s []) i 0 in
    let start = slice_index_or (slice_index_or LINE_STARTS s []) i 0 in
    let xs = map g up in
    let ys = map g down in
    eqb-true (slice_index_or LINE_COUNTS (start + gathered (picked xs up + picked ys down) factor) 0) (both_closed xs ys)
    (every-map g down (λ zs. slice_index_or LINE_COUNTS (start + gathered (picked xs up + picked zs down) factor) 0 == both_closed xs zs)
    (every-map g up (λ zs. every (length down) (λ ys. slice_index_or LINE_COUNTS (start + gathered (picked zs up + picked ys down) factor) 0 == both_closed zs ys))
    (agree_below_at (counts_right i d) (λ _. true) 64 s computed l)))

-- no side has more than 6 flips along a line

is_small : ℕ → Bool
is_small n = nat_lt n 1543

all_small : list_all is_small LINE_COUNTS ≡ true
unfolding is_small
all_small = refl

pub counted_most : (start discs factor : ℕ) → start ≤ 2506 → slice_index_or LINE_COUNTS (start + gathered discs factor) 0 ≤ 1542
unfolding is_small
counted_most start discs factor l =
    let m = start + gathered discs factor in
    elim (cases_Bool (is_small (slice_index_or LINE_COUNTS m 0))) [
      | inl small ↦ let at = ltb-true (slice_index_or LINE_COUNTS m 0) 1543 small in omega (arith, at)
      | inr large ↦ absurd (false≢true (sym (list_all_at is_small LINE_COUNTS m 0 (omega (arith, l)) large) ∙ all_small))
    ]

starts_fit : ℕ → Bool
starts_fit s = list_all (λ n. nat_lt n 2507) (slice_index_or LINE_STARTS s [])

all_fit : agree_below starts_fit (λ _. true) 64 ≡ true
unfolding starts_fit
all_fit = refl

-- each line's counts stand in the table
pub start_fits : (starts : List ℕ) (s i : ℕ) → s < 64 → i < length starts → starts ≡ slice_index_or LINE_STARTS s [] → slice_index_or starts i 0 ≤ 2506
unfolding starts_fit
start_fits starts s i l k e =
    elim (cases_Bool (nat_lt (slice_index_or starts i 0) 2507)) [
      | inl small ↦ let at = ltb-true (slice_index_or starts i 0) 2507 small in omega (arith, at)
      | inr large ↦ absurd (false≢true (sym (list_all_at (λ n. nat_lt n 2507) starts i 0 k large) ∙ ap (list_all (λ n. nat_lt n 2507)) e
          ∙ agree_below_at starts_fit (λ _. true) 64 s all_fit l))
    ]

-- ---- the squares of a line are apart

-- no square is listed twice
unfoldable apart : List ℕ → Bool
apart [] = true
apart (q ∷ qs) = not (is_in qs q) && apart qs

-- squares of the board other than s
unfoldable others : ℕ → List ℕ → Bool
others s [] = true
others s (q ∷ qs) = nat_lt q 64 && (not (q == s) && others s qs)

in_cons : (q : ℕ) (qs : List ℕ) (t : ℕ) → is_in (q ∷ qs) t ≡ ((q == t) || is_in qs t)
unfolding is_in
in_cons q qs t = refl

in_nil : (t : ℕ) → is_in [] t ≡ false
unfolding is_in
in_nil t = refl

or_assoc : (a b c : Bool) → (a || (b || c)) ≡ ((a || b) || c)
or_assoc true b c = refl
or_assoc false b c = refl

in_append : (xs ys : List ℕ) (t : ℕ) → is_in (xs ++ ys) t ≡ (is_in xs t || is_in ys t)
in_append [] ys t = sym (ap (λ b. b || is_in ys t) (in_nil t))
in_append (x ∷ xs) ys t =
    in_cons x (xs ++ ys) t ∙ ap (λ b. (x == t) || b) (in_append xs ys t)
    ∙ or_assoc (x == t) (is_in xs t) (is_in ys t) ∙ sym (ap (λ b. b || is_in ys t) (in_cons x xs t))

not_true : (b : Bool) → not b ≡ true → b ≡ false
not_true true e = absurd (false≢true e)
not_true false e = refl

others_at : (s : ℕ) (qs : List ℕ) (t : ℕ) → others s qs ≡ true → is_in qs t ≡ true → (t < 64) × ((t == s) ≡ false)
unfolding others
others_at s [] t e h = absurd (false≢true (sym (in_nil t) ∙ h))
others_at s (q ∷ qs) t e h =
    let first = and_parts (nat_lt q 64) (not (q == s) && others s qs) e in
    let second = and_parts (not (q == s)) (others s qs) first.1 in
    elim (or_cases (q == t) (is_in qs t) (sym (in_cons q qs t) ∙ h)) [
      | inl here ↦ let same : q ≡ t = eqb-true q t here in
          subst (λ x. (x < 64) × ((x == s) ≡ false)) same (ltb-true q 64 first.0, not_true (q == s) second.0)
      | inr later ↦ others_at s qs t second.1 later
    ]

-- ---- a word of single squares

pow_fits : (x : ℕ) → x < 64 → 2 ^ x < 2 ^ 64
pow_fits x l = pow_below x 64 l

and_fits : (a b : ℕ) → b < 2 ^ 64 → bit_and a b < 2 ^ 64
and_fits a b l = omega (arith, and_le_r a b, l)

and_fits_left : (a b : ℕ) → a < 2 ^ 64 → bit_and a b < 2 ^ 64
and_fits_left a b l = omega (arith, and_le_l a b, l)

-- one square more
word_more : (x : ℕ) (f : ℕ → Bool) → x < 64 → f x ≡ false → 2 ^ x + word_of f ≡ word_of (λ q. (x == q) || f q)
word_more x f l e =
    sym (or_disjoint (2 ^ x) (word_of f) none) ∙ or_word (2 ^ x) (word_of f) (λ q. x == q) f alone refl
  where
    alone : 2 ^ x ≡ word_of (λ q. x == q)
    alone = is_word_of (2 ^ x) (λ q. x == q) (pow_fits x l) (λ q k. has-pow x q)

    both : (q : ℕ) → q < 64 → ((x == q) && f q) ≡ false
    both q k = elim (cases_Bool (x == q)) [
      | inl here ↦ ap (λ b. b && f q) here ∙ ap f (sym (eqb-true x q here)) ∙ e
      | inr there ↦ ap (λ b. b && f q) there
    ]

    none : bit_and (2 ^ x) (word_of f) ≡ 0
    none =
        is_word_of (bit_and (2 ^ x) (word_of f)) (λ _. false) (and_fits (2 ^ x) (word_of f) (word_of-lt f))
        (λ q k. has-and (2 ^ x) (word_of f) q ∙ ap (λ b. b && has (word_of f) q) (has-pow x q) ∙ ap (λ b. (x == q) && b) (has-word_of f q k) ∙ both q k)
        ∙ sym (is_word_of 0 (λ _. false) (omega arith) (λ q k. has-zero q))

not_there : (b : Bool) (x : ℕ) (g : ℕ → Bool) → b ≡ false → (g x && b) ≡ false
not_there b x g e = ap (λ c. g x && c) e ∙ and_false (g x)

zero_plus : (n : ℕ) → 0 + n ≡ n
zero_plus n = omega arith

picked_word : (s : ℕ) (g : ℕ → Bool) (qs : List ℕ) → apart qs ≡ true → others s qs ≡ true → picked (map g qs) qs ≡ word_of (λ q. g q && is_in qs q)
unfolding picked apart others
picked_word s g [] a o = is_word_of 0 (λ q. g q && is_in [] q) (omega arith) (λ q l. has-zero q ∙ sym (ap (λ b. g q && b) (in_nil q) ∙ and_false (g q)))
picked_word s g (x ∷ qs) a o =
    let far = and_parts (not (is_in qs x)) (apart qs) a in
    let first = and_parts (nat_lt x 64) (not (x == s) && others s qs) o in
    let second = and_parts (not (x == s)) (others s qs) first.1 in
    let rest = picked_word s g qs far.1 second.1 in
    let f : ℕ → Bool = λ q. g q && is_in qs q in
    elim (cases_Bool (g x)) [
      | inl mine ↦ ap (λ b. cond b (2 ^ x) 0 + picked (map g qs) qs) mine ∙ ap (λ w. 2 ^ x + w) rest
          ∙ word_more x f (ltb-true x 64 first.0) (not_there (is_in qs x) x g (not_true (is_in qs x) far.0))
          ∙ word_of-same (λ q. (x == q) || f q) (λ q. g q && is_in (x ∷ qs) q) (λ q l. with_it q mine)
      | inr other ↦ ap (λ b. cond b (2 ^ x) 0 + picked (map g qs) qs) other ∙ zero_plus (picked (map g qs) qs) ∙ rest
          ∙ word_of-same f (λ q. g q && is_in (x ∷ qs) q) (λ q l. without_it q other)
    ]
  where
    with_it : (q : ℕ) → g x ≡ true → ((x == q) || (g q && is_in qs q)) ≡ (g q && is_in (x ∷ qs) q)
    with_it q mine = elim (cases_Bool (x == q)) [
      | inl here ↦ ap (λ b. b || (g q && is_in qs q)) here
          ∙ sym (ap (λ b. g q && b) (in_cons x qs q ∙ ap (λ b. b || is_in qs q) here) ∙ ap (λ y. g y && true) (sym (eqb-true x q here)) ∙ ap (λ b. b && true) mine)
      | inr there ↦ ap (λ b. b || (g q && is_in qs q)) there
          ∙ sym (ap (λ b. g q && b) (in_cons x qs q ∙ ap (λ b. b || is_in qs q) there))
    ]

    without_it : (q : ℕ) → g x ≡ false → (g q && is_in qs q) ≡ (g q && is_in (x ∷ qs) q)
    without_it q other = elim (cases_Bool (x == q)) [
      | inl here ↦ let none : g q ≡ false = ap g (sym (eqb-true x q here)) ∙ other in
          ap (λ b. b && is_in qs q) none ∙ sym (ap (λ b. b && is_in (x ∷ qs) q) none)
      | inr there ↦ sym (ap (λ b. g q && b) (in_cons x qs q ∙ ap (λ b. b || is_in qs q) there))
    ]

plus_assoc : (a b c : ℕ) → a + (b + c) ≡ (a + b) + c
plus_assoc a b c = omega arith

picked_append : (g : ℕ → Bool) (xs ys : List ℕ) → picked (map g (xs ++ ys)) (xs ++ ys) ≡ picked (map g xs) xs + picked (map g ys) ys
unfolding picked
picked_append g [] ys = omega arith
picked_append g (x ∷ xs) ys = ap (λ n. cond (g x) (2 ^ x) 0 + n) (picked_append g xs ys) ∙ plus_assoc (cond (g x) (2 ^ x) 0) (picked (map g xs) xs) (picked (map g ys) ys)

-- ---- the masks, computed

unfoldable mask_right : ℕ → Direction → ℕ → Bool
mask_right i d s =
    let line = ray d s ++ ray (reversed d) s in
    (slice_index_or (slice_index_or LINE_MASKS s []) i 0 == picked (map (λ _. true) line) line) && (apart line && others s line)

row_masks : agree_below (mask_right 0 (record { columns = Forth; rows = Stay })) (λ _. true) 64 ≡ true
unfolding mask_right picked apart others is_in ray ray_from next stepped square_at
row_masks = refl

falling_masks : agree_below (mask_right 1 (record { columns = Forth; rows = Forth })) (λ _. true) 64 ≡ true
unfolding mask_right picked apart others is_in ray ray_from next stepped square_at
falling_masks = refl

column_masks : agree_below (mask_right 2 (record { columns = Stay; rows = Forth })) (λ _. true) 64 ≡ true
unfolding mask_right picked apart others is_in ray ray_from next stepped square_at
column_masks = refl

rising_masks : agree_below (mask_right 3 (record { columns = Back; rows = Forth })) (λ _. true) 64 ≡ true
unfolding mask_right picked apart others is_in ray ray_from next stepped square_at
rising_masks = refl

masked : (i : ℕ) (d : Direction) (s w : ℕ) → agree_below (mask_right i d) (λ _. true) 64 ≡ true → s < 64 → w < 2 ^ 64 →
    bit_and w (slice_index_or (slice_index_or LINE_MASKS s []) i 0) ≡ picked (map (has w) (ray d s)) (ray d s) + picked (map (has w) (ray (reversed d) s)) (ray (reversed d) s)
unfolding mask_right
masked i d s w computed l fits =
    let line = ray d s ++ ray (reversed d) s in
    let mask = slice_index_or (slice_index_or LINE_MASKS s []) i 0 in
    let all = and_parts (mask == picked (map (λ _. true) line) line) (apart line && others s line) (agree_below_at (mask_right i d) (λ _. true) 64 s computed l) in
    let fine = and_parts (apart line) (others s line) all.1 in
    let mask_is : mask ≡ word_of (λ q. is_in line q) = eqb-true mask (picked (map (λ _. true) line) line) all.0 ∙ picked_word s (λ _. true) line fine.0 fine.1 in
    is_word_of (bit_and w mask) (λ q. has w q && is_in line q) (and_fits_left w mask fits)
    (λ q k. has-and w mask q ∙ ap (λ b. has w q && b) (ap (λ m. has m q) mask_is ∙ has-word_of (is_in line) q k))
    ∙ sym (picked_word s (has w) line fine.0 fine.1)
    ∙ picked_append (has w) (ray d s) (ray (reversed d) s)

line_others : (i : ℕ) (d : Direction) (s q : ℕ) → agree_below (mask_right i d) (λ _. true) 64 ≡ true → s < 64 → is_in (ray d s ++ ray (reversed d) s) q ≡ true → (q < 64) × ((q == s) ≡ false)
unfolding mask_right
line_others i d s q computed l h =
    let line = ray d s ++ ray (reversed d) s in
    let mask = slice_index_or (slice_index_or LINE_MASKS s []) i 0 in
    let all = and_parts (mask == picked (map (λ _. true) line) line) (apart line && others s line) (agree_below_at (mask_right i d) (λ _. true) 64 s computed l) in
    others_at s line q (and_parts (apart line) (others s line) all.1).1 h

-- ---- what is outflanked along a line without an empty square

full_cell : (c : Cell) → is_empty_cell c ≡ false → is_theirs_cell c ≡ not (is_mine_cell c)
unfolding is_empty_cell is_theirs_cell is_mine_cell
full_cell Mine e = refl
full_cell Theirs e = refl
full_cell Empty e = absurd (false≢true (sym e))

full_square : (p : Position) (q : ℕ) → is_empty p q ≡ false → is_theirs p q ≡ not (is_mine p q)
unfolding is_empty is_theirs is_mine
full_square p q e = full_cell (cell p q) e

abbrev IsFull : Position → List ℕ → Type 0
IsFull p line = (q : ℕ) → is_in line q ≡ true → is_theirs p q ≡ not (is_mine p q)

in_first : (q : ℕ) (rest : List ℕ) → is_in (q ∷ rest) q ≡ true
in_first q rest = in_cons q rest q ∙ ap (λ b. b || is_in rest q) (eq-eqb q q refl)

in_rest : (q : ℕ) (rest : List ℕ) (t : ℕ) → is_in rest t ≡ true → is_in (q ∷ rest) t ≡ true
in_rest q rest t h = in_cons q rest t ∙ or_true (q == t) (is_in rest t) h

some_closed : (p : Position) (line : List ℕ) → IsFull p line → some (map (is_mine p) line) ≡ is_closed p line
unfolding some is_closed
some_closed p [] f = refl
some_closed p (q ∷ rest) f =
    elim (cases_Bool (is_mine p q)) [
      | inl mine ↦ ap (λ b. if b then true else some (map (is_mine p) rest)) mine
          ∙ sym (ap (λ b. if b then is_closed p rest else is_mine p q) (f q (in_first q rest) ∙ ap not mine) ∙ mine)
      | inr other ↦ ap (λ b. if b then true else some (map (is_mine p) rest)) other
          ∙ some_closed p rest (λ t h. f t (in_rest q rest t h))
          ∙ sym (ap (λ b. if b then is_closed p rest else is_mine p q) (f q (in_first q rest) ∙ ap not other))
    ]

before_front : (p : Position) (line : List ℕ) → IsFull p line → before (map (is_mine p) line) ≡ length (front p line)
unfolding before front
before_front p [] f = refl
before_front p (q ∷ rest) f =
    elim (cases_Bool (is_mine p q)) [
      | inl mine ↦ ap (λ b. if b then 0 else suc (before (map (is_mine p) rest))) mine
          ∙ sym (ap (λ b. length (if b then q ∷ front p rest else [])) (f q (in_first q rest) ∙ ap not mine))
      | inr other ↦ ap (λ b. if b then 0 else suc (before (map (is_mine p) rest))) other
          ∙ ap suc (before_front p rest (λ t h. f t (in_rest q rest t h)))
          ∙ sym (ap (λ b. length (if b then q ∷ front p rest else [])) (f q (in_first q rest) ∙ ap not other))
    ]

length_if : (b : Bool) (xs : List ℕ) → length (if b then xs else []) ≡ (if b then length xs else 0)
length_if true xs = refl
length_if false xs = refl

map_same : (f g : ℕ → Bool) (qs : List ℕ) → ((q : ℕ) → f q ≡ g q) → map f qs ≡ map g qs
map_same f g [] h = refl
map_same f g (q ∷ qs) h = ap (λ b. b ∷ map f qs) (h q) ∙ ap (λ bs. g q ∷ bs) (map_same f g qs h)

closed_outflanked : (p : Position) (line : List ℕ) → IsFull p line → closed_in (map (has p.own) line) ≡ length (outflanked p line)
unfolding closed_in
closed_outflanked p line f =
    ap closed_in (map_same (has p.own) (is_mine p) line (λ q. sym (is_mine-has p q)))
    ∙ ap (λ b. if b then before (map (is_mine p) line) else 0) (some_closed p line f)
    ∙ ap (λ n. if is_closed p line then n else 0) (before_front p line f)
    ∙ sym (ap length (outflanked-is p line) ∙ length_if (is_closed p line) (front p line))

-- the other side's discs are those that are not the mover's
others_mine : (f g : ℕ → Bool) (line : List ℕ) → ((q : ℕ) → is_in line q ≡ true → not (f q) ≡ g q) → map not (map f line) ≡ map g line
others_mine f g [] h = refl
others_mine f g (q ∷ rest) h =
    ap (λ b. b ∷ map not (map f rest)) (h q (in_first q rest))
    ∙ ap (λ bs. g q ∷ bs) (others_mine f g rest (λ t k. h t (in_rest q rest t k)))

mine_opposite : (c : Cell) → is_mine_cell (opposite_cell c) ≡ is_theirs_cell c
unfolding is_mine_cell is_theirs_cell opposite_cell
mine_opposite Mine = refl
mine_opposite Theirs = refl
mine_opposite Empty = refl

mine_pass : (p : Position) (q : ℕ) → q < 64 → is_mine (pass p) q ≡ is_theirs p q
unfolding pass is_mine is_theirs
mine_pass p q l = ap is_mine_cell (cell-position_of (λ s. opposite_cell (cell p s)) q l) ∙ mine_opposite (cell p q)

pub last_pass : (p : Position) (s : ℕ) → IsLast p s → IsLast (pass p) s
last_pass p s last = record {
  on_board = last.on_board;
  empty = empty-pass p s last.on_board ∙ last.empty;
  only = λ t l e. last.only t l (sym (empty-pass p t l) ∙ e);
}

full_line : (p : Position) (s : ℕ) (line : List ℕ) → IsLast p s → ((q : ℕ) → is_in line q ≡ true → (q < 64) × ((q == s) ≡ false)) → IsFull p line
full_line p s line last there q h =
    let at = there q h in
    full_square p q (elim (cases_Bool (is_empty p q)) [
      | inl e ↦ absurd (false≢true (sym at.1 ∙ eq-eqb q s (last.only q at.0 e)))
      | inr e ↦ e
    ])

closed_passed : (p : Position) (s : ℕ) (line : List ℕ) → IsLast p s → ((q : ℕ) → is_in line q ≡ true → (q < 64) × ((q == s) ≡ false))
    → closed_in (map not (map (has p.own) line)) ≡ length (outflanked (pass p) line)
closed_passed p s line last there =
    ap closed_in (others_mine (has p.own) (has (pass p).own) line other)
    ∙ closed_outflanked (pass p) line (full_line (pass p) s line (last_pass p s last) there)
  where
    other : (q : ℕ) → is_in line q ≡ true → not (has p.own q) ≡ has (pass p).own q
    other q h =
        ap not (sym (is_mine-has p q)) ∙ sym (full_line p s line last there q h) ∙ sym (mine_pass p q (there q h).0)
        ∙ is_mine-has (pass p) q

-- the look at the table, for a line and the board's discs
counted_line : (i : ℕ) (d : Direction) (p : Position) (s : ℕ) → agree_below (counts_right i d) (λ _. true) 64 ≡ true
    → agree_below (mask_right i d) (λ _. true) 64 ≡ true → IsBoard p → IsLast p s →
    look i s (bit_and p.own (slice_index_or (slice_index_or LINE_MASKS s []) i 0))
    ≡ (length (flipped_along p s d) + length (flipped_along p s (reversed d))) + 256 * (length (flipped_along (pass p) s d) + length (flipped_along (pass p) s (reversed d)))
unfolding flipped_along both_closed
counted_line i d p s counts masks b last =
    ap (look i s) (masked i d s p.own masks last.on_board b.own_fits)
    ∙ counts_at i d s (has p.own) counts last.on_board
    ∙ of_both (closed_outflanked p up (full_line p s up last in_up)) (closed_outflanked p down (full_line p s down last in_down))
    (closed_passed p s up last in_up) (closed_passed p s down last in_down)
  where
    up : List ℕ
    up = ray d s

    down : List ℕ
    down = ray (reversed d) s

    in_up : (q : ℕ) → is_in (ray d s) q ≡ true → (q < 64) × ((q == s) ≡ false)
    in_up q h = line_others i d s q masks last.on_board (in_append (ray d s) (ray (reversed d) s) q ∙ ap (λ x. x || is_in (ray (reversed d) s) q) h)

    in_down : (q : ℕ) → is_in (ray (reversed d) s) q ≡ true → (q < 64) × ((q == s) ≡ false)
    in_down q h = line_others i d s q masks last.on_board
        (in_append (ray d s) (ray (reversed d) s) q ∙ or_true (is_in (ray d s) q) (is_in (ray (reversed d) s) q) h)

    of_both : {a b c e a' b' c' e' : ℕ} → a ≡ a' → b ≡ b' → c ≡ c' → e ≡ e' → (a + b) + 256 * (c + e) ≡ (a' + b') + 256 * (c' + e')
    of_both ha hb hc he = omega (arith, ha, hb, hc, he)

-- ---- the flips of all directions together

unfoldable joined : (Direction → List ℕ) → List Direction → List ℕ
joined f [] = []
joined f (d ∷ ds) = f d ++ joined f ds

joined_any : (f : Direction → List ℕ) (ds : List Direction) (q : ℕ) → list_any (λ d. is_in (f d) q) ds ≡ is_in (joined f ds) q
unfolding joined
joined_any f [] q = sym (in_nil q)
joined_any f (d ∷ ds) q = ap (λ b. is_in (f d) q || b) (joined_any f ds q) ∙ sym (in_append (f d) (joined f ds) q)

unfoldable rays_apart : ℕ → Bool
rays_apart s = let all = joined (λ d. ray d s) directions in apart all && others s all

all_apart : agree_below rays_apart (λ _. true) 64 ≡ true
unfolding rays_apart joined directions apart others is_in ray ray_from next stepped square_at
all_apart = refl

apart_rest : (xs ys : List ℕ) → apart (xs ++ ys) ≡ true → apart ys ≡ true
unfolding apart
apart_rest [] ys e = e
apart_rest (x ∷ xs) ys e = apart_rest xs ys (and_parts (not (is_in (xs ++ ys) x)) (apart (xs ++ ys)) e).1

in_front_line : (p : Position) (line : List ℕ) (t : ℕ) → is_in (front p line) t ≡ true → is_in line t ≡ true
unfolding front
in_front_line p [] t h = h
in_front_line p (q ∷ rest) t h =
    elim (or_cases (q == t) (is_in (front p rest) t) (and_parts (is_theirs p q) ((q == t) || is_in (front p rest) t) (sym (in_front p q rest t) ∙ h)).1) [
      | inl here ↦ in_cons q rest t ∙ ap (λ b. b || is_in rest t) here
      | inr later ↦ in_rest q rest t (in_front_line p rest t later)
    ]

-- a part of a list that is apart, before another
in_either : (xs ys vs ws : List ℕ) (t : ℕ) → (is_in xs t ≡ true → is_in vs t ≡ true) → (is_in ys t ≡ true → is_in ws t ≡ true) → is_in (xs ++ ys) t ≡ true → is_in (vs ++ ws) t ≡ true
in_either xs ys vs ws t f g h =
    in_append vs ws t ∙ elim (or_cases (is_in xs t) (is_in ys t) (sym (in_append xs ys t) ∙ h)) [
      | inl first ↦ ap (λ b. b || is_in ws t) (f first)
      | inr second ↦ or_true (is_in vs t) (is_in ws t) (g second)
    ]

not_in : (xs ys : List ℕ) (t : ℕ) → (is_in xs t ≡ true → is_in ys t ≡ true) → not (is_in ys t) ≡ true → not (is_in xs t) ≡ true
not_in xs ys t f e = elim (cases_Bool (is_in xs t)) [
  | inl h ↦ absurd (false≢true (sym (ap not (f h)) ∙ e))
  | inr h ↦ ap not h
]

both_true : (a b : Bool) → a ≡ true → b ≡ true → (a && b) ≡ true
both_true true b e h = h
both_true false b e h = absurd (false≢true e)

apart_front : (p : Position) (line xs ys : List ℕ) → apart (line ++ ys) ≡ true → ((t : ℕ) → is_in xs t ≡ true → is_in ys t ≡ true) → apart xs ≡ true → apart (front p line ++ xs) ≡ true
unfolding apart front
apart_front p [] xs ys e f h = h
apart_front p (q ∷ rest) xs ys e f h =
    let far = and_parts (not (is_in (rest ++ ys) q)) (apart (rest ++ ys)) e in
    elim (cases_Bool (is_theirs p q)) [
      | inl theirs ↦ ap (λ b. apart ((if b then q ∷ front p rest else []) ++ xs)) theirs
          ∙ both_true (not (is_in (front p rest ++ xs) q)) (apart (front p rest ++ xs))
          (not_in (front p rest ++ xs) (rest ++ ys) q (in_either (front p rest) xs rest ys q (in_front_line p rest q) (f q)) far.0)
          (apart_front p rest xs ys far.1 f h)
      | inr other ↦ ap (λ b. apart ((if b then q ∷ front p rest else []) ++ xs)) other ∙ h
    ]

in_outflanked : (p : Position) (line : List ℕ) (t : ℕ) → is_in (outflanked p line) t ≡ true → is_in line t ≡ true
in_outflanked p line t h =
    elim (cases_Bool (is_closed p line)) [
      | inl c ↦ in_front_line p line t (sym (ap (λ xs. is_in xs t) (outflanked-is p line ∙ ap (λ b. if b then front p line else []) c)) ∙ h)
      | inr o ↦ absurd (false≢true (sym (in_nil t) ∙ sym (ap (λ xs. is_in xs t) (outflanked-is p line ∙ ap (λ b. if b then front p line else []) o)) ∙ h))
    ]

apart_outflanked : (p : Position) (line xs ys : List ℕ) → apart (line ++ ys) ≡ true → ((t : ℕ) → is_in xs t ≡ true → is_in ys t ≡ true) → apart xs ≡ true → apart (outflanked p line ++ xs) ≡ true
apart_outflanked p line xs ys e f h =
    elim (cases_Bool (is_closed p line)) [
      | inl c ↦ ap (λ zs. apart (zs ++ xs)) (outflanked-is p line ∙ ap (λ b. if b then front p line else []) c) ∙ apart_front p line xs ys e f h
      | inr o ↦ ap (λ zs. apart (zs ++ xs)) (outflanked-is p line ∙ ap (λ b. if b then front p line else []) o) ∙ h
    ]

in_flips : (p : Position) (s : ℕ) (ds : List Direction) (t : ℕ) → is_in (joined (flipped_along p s) ds) t ≡ true → is_in (joined (λ d. ray d s) ds) t ≡ true
unfolding joined flipped_along
in_flips p s [] t h = h
in_flips p s (d ∷ ds) t h = in_either (outflanked p (ray d s)) (joined (flipped_along p s) ds) (ray d s) (joined (λ d. ray d s) ds) t (in_outflanked p (ray d s) t) (in_flips p s ds t) h

flips_apart : (p : Position) (s : ℕ) (ds : List Direction) → apart (joined (λ d. ray d s) ds) ≡ true → apart (joined (flipped_along p s) ds) ≡ true
unfolding joined flipped_along
flips_apart p s [] e = e
flips_apart p s (d ∷ ds) e =
    apart_outflanked p (ray d s) (joined (flipped_along p s) ds) (joined (λ d. ray d s) ds) e (in_flips p s ds)
    (flips_apart p s ds (apart_rest (ray d s) (joined (λ d. ray d s) ds) e))

other_way : (q x : ℕ) → (q == x) ≡ false → (x == q) ≡ false
other_way q x there = elim (cases_Bool (x == q)) [
  | inl same ↦ absurd (false≢true (sym there ∙ eq-eqb q x (sym (eqb-true x q same))))
  | inr apart' ↦ apart'
]

-- a list whose squares are apart has as many squares as elements
count_list : (qs : List ℕ) → apart qs ≡ true → ((q : ℕ) → is_in qs q ≡ true → q < 64) → count_by (is_in qs) squares ≡ length qs
unfolding apart squares
count_list [] e h = count_by-same (is_in []) (λ _. false) (λ q l. in_nil q)
count_list (x ∷ qs) e h =
    let far = and_parts (not (is_in qs x)) (apart qs) e in
    count_by-squares (is_in (x ∷ qs))
    ∙ count_upto-without (is_in (x ∷ qs)) x 64 (h x (in_first x qs)) (in_first x qs)
    ∙ ap suc (count_upto-same (λ q. is_in (x ∷ qs) q && not (q == x)) (is_in qs) 64 (λ q l. without q (not_true (is_in qs x) far.0)) ∙ sym (count_by-squares (is_in qs)))
    ∙ ap suc (count_list qs far.1 (λ q k. h q (in_rest x qs q k)))
  where
    without : (q : ℕ) → is_in qs x ≡ false → (is_in (x ∷ qs) q && not (q == x)) ≡ is_in qs q
    without q none = elim (cases_Bool (q == x)) [
      | inl here ↦ ap (λ b. is_in (x ∷ qs) q && not b) here ∙ and_false (is_in (x ∷ qs) q) ∙ sym (ap (is_in qs) (eqb-true q x here) ∙ none)
      | inr there ↦ ap (λ b. is_in (x ∷ qs) q && not b) there ∙ and_true (is_in (x ∷ qs) q) ∙ in_cons x qs q
          ∙ ap (λ b. b || is_in qs q) (other_way q x there)
    ]
      where
        and_true : (a : Bool) → (a && true) ≡ a
        and_true true = refl
        and_true false = refl

-- the squares that a move flips, direction by direction
flips_count : (p : Position) (s : ℕ) → s < 64 → is_empty p s ≡ true → count_by (is_flipped p s) squares ≡ length (joined (flipped_along p s) directions)
unfolding is_flipped rays_apart
flips_count p s l e =
    let fine = and_parts (apart (joined (λ d. ray d s) directions)) (others s (joined (λ d. ray d s) directions)) (agree_below_at rays_apart (λ _. true) 64 s all_apart l) in
    count_by-same (is_flipped p s) (is_in (joined (flipped_along p s) directions))
    (λ q k. ap (λ b. b && list_any (λ d. is_in (flipped_along p s d) q) directions) e ∙ joined_any (flipped_along p s) directions q)
    ∙ count_list (joined (flipped_along p s) directions) (flips_apart p s directions fine.0)
    (λ q k. (others_at s (joined (λ d. ray d s) directions) q fine.1 (in_flips p s directions q k)).0)

unfoldable lengths : (Direction → List ℕ) → List Direction → ℕ
lengths f [] = 0
lengths f (d ∷ ds) = length (f d) + lengths f ds

joined_length : (f : Direction → List ℕ) (ds : List Direction) → length (joined f ds) ≡ lengths f ds
unfolding joined lengths
joined_length f [] = refl
joined_length f (d ∷ ds) = length-append (f d) (joined f ds) ∙ ap (λ n. length (f d) + n) (joined_length f ds)

-- the flips of a side, line by line
flips_by_line : (p : Position) (s : ℕ) → s < 64 → is_empty p s ≡ true →
    count_by (is_flipped p s) squares
    ≡ (length (flipped_along p s (record { columns = Forth; rows = Stay })) + length (flipped_along p s (record { columns = Back; rows = Stay })))
    + (length (flipped_along p s (record { columns = Forth; rows = Forth })) + length (flipped_along p s (record { columns = Back; rows = Back })))
    + (length (flipped_along p s (record { columns = Stay; rows = Forth })) + length (flipped_along p s (record { columns = Stay; rows = Back })))
    + (length (flipped_along p s (record { columns = Back; rows = Forth })) + length (flipped_along p s (record { columns = Forth; rows = Back })))
unfolding lengths directions
flips_by_line p s l e =
    let f : Direction → ℕ = λ d. length (flipped_along p s d) in
    together (f (record { columns = Stay; rows = Back })) (f (record { columns = Forth; rows = Back })) (f (record { columns = Forth; rows = Stay }))
    (f (record { columns = Forth; rows = Forth }))
    (f (record { columns = Stay; rows = Forth })) (f (record { columns = Back; rows = Forth })) (f (record { columns = Back; rows = Stay })) (f (record { columns = Back; rows = Back }))
    (count_by (is_flipped p s) squares)
    (flips_count p s l e ∙ joined_length (flipped_along p s) directions)
  where
    together : (n ne e se s sw w nw all : ℕ) → all ≡ n + (ne + (e + (se + (s + (sw + (w + (nw + 0))))))) → all ≡ (e + w) + (se + nw) + (s + n) + (sw + ne)
    together n ne e se s sw w nw all h = omega (arith, h)

-- the four looks together
pub last_flips : (p : Position) (s : ℕ) → IsBoard p → IsLast p s → (own : ℕ) → own ≡ p.own → (masks factors starts : List ℕ) →
    masks ≡ slice_index_or LINE_MASKS s [] → factors ≡ slice_index_or LINE_FACTORS s [] → starts ≡ slice_index_or LINE_STARTS s [] → (a b c d : ℕ) →
    a ≡ slice_index_or LINE_COUNTS (slice_index_or starts 0 0 + gathered (bit_and own (slice_index_or masks 0 0)) (slice_index_or factors 0 0)) 0 →
    b ≡ slice_index_or LINE_COUNTS (slice_index_or starts 1 0 + gathered (bit_and own (slice_index_or masks 1 0)) (slice_index_or factors 1 0)) 0 →
    c ≡ slice_index_or LINE_COUNTS (slice_index_or starts 2 0 + gathered (bit_and own (slice_index_or masks 2 0)) (slice_index_or factors 2 0)) 0 →
    d ≡ slice_index_or LINE_COUNTS (slice_index_or starts 3 0 + gathered (bit_and own (slice_index_or masks 3 0)) (slice_index_or factors 3 0)) 0 →
    a + b + c + d ≡ count_by (is_flipped p s) squares + 256 * count_by (is_flipped (pass p) s) squares
last_flips p s board last own eo masks factors starts em ef es a b c d ea eb ec ed =
    let row = of_line 0 (record { columns = Forth; rows = Stay }) a rows_right row_masks ea in
    let falling = of_line 1 (record { columns = Forth; rows = Forth }) b falling_right falling_masks eb in
    let column = of_line 2 (record { columns = Stay; rows = Forth }) c columns_right column_masks ec in
    let rising = of_line 3 (record { columns = Back; rows = Forth }) d rising_right rising_masks ed in
    let mover = flips_by_line p s last.on_board last.empty in
    let passed = last_pass p s last in
    let other = flips_by_line (pass p) s passed.on_board passed.empty in
    omega (arith, row, falling, column, rising, mover, other)
  where
    of_line : (i : ℕ) (d : Direction) (x : ℕ) → agree_below (counts_right i d) (λ _. true) 64 ≡ true → agree_below (mask_right i d) (λ _. true) 64 ≡ true
        → x ≡ slice_index_or LINE_COUNTS (slice_index_or starts i 0 + gathered (bit_and own (slice_index_or masks i 0)) (slice_index_or factors i 0)) 0
        → x ≡ (length (flipped_along p s d) + length (flipped_along p s (reversed d))) + 256 * (length (flipped_along (pass p) s d) + length (flipped_along (pass p) s (reversed d)))
    of_line i d x counts right e =
        e
        ∙ ap (λ m. slice_index_or LINE_COUNTS (slice_index_or m i 0 + gathered (bit_and own (slice_index_or masks i 0)) (slice_index_or factors i 0)) 0) es
        ∙ ap (λ m. slice_index_or LINE_COUNTS (slice_index_or (slice_index_or LINE_STARTS s []) i 0 + gathered (bit_and own (slice_index_or masks i 0)) (slice_index_or m i 0)) 0) ef
        ∙ ap (λ m. look i s (bit_and own (slice_index_or m i 0))) em
        ∙ ap (λ w. look i s (bit_and w (slice_index_or (slice_index_or LINE_MASKS s []) i 0))) eo
        ∙ counted_line i d p s counts right board last

-- the mover flips fewer than 256 discs, so the bytes are apart
pub parts_of : (x m n : ℕ) → x ≡ m + 256 * n → m ≤ 64 → (x % 256 ≡ m) × (x / 256 ≡ n)
parts_of x m n e l = (omega (arith, e, l), omega (arith, e, l))

-- no square passes a test just where none is counted
none_counted : (f : ℕ → Bool) → count_by f squares ≡ 0 → list_any f squares ≡ false
none_counted f e =
    elim (cases_Bool (list_any f squares)) [
      | inl t ↦ let k = any_picks_square f t in
          absurd (omega (arith, e, count_by-squares f, count_upto-without f k.0 64 k.1 k.2))
      | inr none ↦ none
    ]

counted_none : (f : ℕ → Bool) → list_any f squares ≡ false → count_by f squares ≡ 0
unfolding squares
counted_none f e = count_by-same f (λ _. false) (λ q l. elim (cases_Bool (f q)) [
  | inl passes ↦ absurd (false≢true (sym e ∙ any_square f q l passes))
  | inr fails ↦ fails
])

pub illegal_counts : (p : Position) (s n : ℕ) → n ≡ count_by (is_flipped p s) squares → (n ≡ 0 → is_legal p s ≡ false) × (is_legal p s ≡ false → n ≡ 0)
unfolding is_legal
illegal_counts p s n e = ((λ h. none_counted (is_flipped p s) (sym e ∙ h)), (λ h. e ∙ counted_none (is_flipped p s) h))

-- ---- the discs after a move

count_or : (f g : ℕ → Bool) (n : ℕ) → ((q : ℕ) → q < n → f q ≡ true → g q ≡ false) → count_upto n (λ q. f q || g q) ≡ count_upto n f + count_upto n g
unfolding count_upto
count_or f g zero h = refl
count_or f g (suc n) h = either (f n) (g n) (count_upto n f) (count_upto n g) (count_upto n (λ q. f q || g q)) (h n (omega arith)) (count_or f g n (λ q l. h q (omega arith)))
  where
    either : (a b : Bool) (x y z : ℕ) → (a ≡ true → b ≡ false) → z ≡ x + y → cond (a || b) 1 0 + z ≡ (cond a 1 0 + x) + (cond b 1 0 + y)
    either true true x y z h e = absurd (false≢true (sym (h refl)))
    either true false x y z h e = omega (arith, e)
    either false true x y z h e = omega (arith, e)
    either false false x y z h e = omega (arith, e)

count_none : (n : ℕ) → count_upto n (λ _. false) ≡ 0
unfolding count_upto
count_none zero = refl
count_none (suc n) = ap (λ x. 0 + x) (count_none n)

count_one : (s : ℕ) → s < 64 → count_upto 64 (λ q. q == s) ≡ 1
count_one s l =
    count_upto-without (λ q. q == s) s 64 l (eq-eqb s s refl)
    ∙ ap suc (count_upto-same (λ q. (q == s) && not (q == s)) (λ _. false) 64 (λ q k. both (q == s)) ∙ count_none 64)
  where
    both : (b : Bool) → (b && not b) ≡ false
    both true = refl
    both false = refl

theirs_not_mine : (c : Cell) → is_theirs_cell c ≡ true → is_mine_cell c ≡ false
unfolding is_theirs_cell is_mine_cell
theirs_not_mine Mine e = absurd (false≢true e)
theirs_not_mine Theirs e = refl
theirs_not_mine Empty e = refl

empty_not_mine : (c : Cell) → is_empty_cell c ≡ true → is_mine_cell c ≡ false
unfolding is_empty_cell is_mine_cell
empty_not_mine Mine e = absurd (false≢true e)
empty_not_mine Theirs e = refl
empty_not_mine Empty e = refl

placed_theirs : (b : Bool) (c : Cell) → is_theirs_cell (opposite_cell (if b then Mine else c)) ≡ (b || is_mine_cell c)
unfolding is_theirs_cell opposite_cell is_mine_cell
placed_theirs true c = refl
placed_theirs false Mine = refl
placed_theirs false Theirs = refl
placed_theirs false Empty = refl

theirs_after : (p : Position) (s q : ℕ) → q < 64 → is_theirs (after p s) q ≡ ((q == s || is_flipped p s q) || is_mine p q)
unfolding is_theirs is_mine
theirs_after p s q l =
    ap (λ r. is_theirs_cell (cell r q)) (after-is p s)
    ∙ ap is_theirs_cell (cell-position_of (λ q. opposite_cell (if q == s || is_flipped p s q then Mine else cell p q)) q l)
    ∙ placed_theirs (q == s || is_flipped p s q) (cell p q)

-- the discs of who moved are the old ones, the new one, and those that it flipped
pub discs_after : (p : Position) (s : ℕ) → s < 64 → is_empty p s ≡ true → theirs_count (after p s) ≡ suc (mine_count p + count_by (is_flipped p s) squares)
unfolding theirs_count mine_count is_mine is_theirs is_empty
discs_after p s l e =
    let all : count_by (is_theirs (after p s)) squares ≡ count_upto 64 (λ q. (q == s || is_flipped p s q) || is_mine p q) =
    count_by-same (is_theirs (after p s)) (λ q. (q == s || is_flipped p s q) || is_mine p q) (theirs_after p s) ∙ count_by-squares (λ q. (q == s || is_flipped p s q) || is_mine p q) in
    let outer = count_or (λ q. q == s || is_flipped p s q) (is_mine p) 64 (λ q k h. elim (or_cases (q == s) (is_flipped p s q) h) [
      | inl here ↦ ap (is_mine p) (eqb-true q s here) ∙ empty_not_mine (cell p s) e
      | inr flipped ↦ theirs_not_mine (cell p q) (flipped_theirs p s q flipped)
    ]) in
    let inner = count_or (λ q. q == s) (is_flipped p s) 64 (λ q k h. not_flipped q (eqb-true q s h)) in
    omega (arith, all, outer, inner, count_one s l, count_by-squares (is_mine p), count_by-squares (is_flipped p s))
  where
    not_flipped : (q : ℕ) → q ≡ s → is_flipped p s q ≡ false
    not_flipped q same = elim (cases_Bool (is_flipped p s q)) [
      | inl f ↦ absurd (false≢true (sym (theirs_not_empty p q (flipped_theirs p s q f)) ∙ ap (is_empty p) same ∙ e))
      | inr f ↦ f
    ]

-- ---- the discs before the last move

none_but : (e : Bool) (s q : ℕ) → (e ≡ true → q ≡ s) → (e && not (q == s)) ≡ false
none_but true s q h = ap not (eq-eqb q s (h refl))
none_but false s q h = refl

one_empty : (p : Position) (s : ℕ) → IsLast p s → empty_count p ≡ 1
unfolding empty_count
one_empty p s last =
    count_by-squares (is_empty p)
    ∙ count_upto-without (is_empty p) s 64 last.on_board last.empty
    ∙ ap suc (count_upto-same (λ q. is_empty p q && not (q == s)) (λ _. false) 64 (λ q l. none_but (is_empty p q) s q (last.only q l)) ∙ count_none 64)

mine_count-pass : (p : Position) → mine_count (pass p) ≡ theirs_count p
unfolding mine_count theirs_count
mine_count-pass p = count_by-same (is_mine (pass p)) (is_theirs p) (mine_pass p)

-- both sides have 63 discs
pub last_discs : (p : Position) (s : ℕ) → IsLast p s → mine_count p + mine_count (pass p) ≡ 63
last_discs p s last = omega (arith, counts p, one_empty p s last, mine_count-pass p)
