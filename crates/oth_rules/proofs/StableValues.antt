-- Stable discs of theirs bound the value: each takes two from the best of 64.
use Rattle.std.proofs.Common.{w8, to_z, of_z, ◌≡◌, ℕ, zero, suc, ◌*◌, ◌<◌, ◌≤◌, ◌^◌, Bool, true, false, ◌||◌, cond, ℤ, pos, neg_ℤ, ◌-ℤ◌, ◌≤ℤ◌, refl, sym, ap, ◌∙◌, subst, inl, inr, arith}
use Rattle.std.specs.Prelude.{count_ones, ◌==◌, if◌then◌else◌}
use Rattle.std.proofs.lemmas.Bool.{cases_Bool, cases_order, ne_eqb, false≢true}
use Rattle.std.proofs.lemmas.Int.{ints}
use Rattle.oth_rules.specs.declared.scoring.Scoring.{Scoring}
use Rattle.oth_rules.specs.declared.scoring.Scoring.TheVariants.{Winner, Discs}
use Rattle.oth_rules.specs.Square.{has}
use Rattle.oth_rules.specs.Position.{Position, Cell, Mine, Theirs, Empty, cell, is_mine, is_theirs, is_empty, is_mine_cell}
use Rattle.oth_rules.specs.Position.{is_theirs_cell, is_empty_cell, opposite_cell, pass, mine_count, theirs_count, empty_count}
use Rattle.oth_rules.specs.Move.{is_flipped, can_move, after}
use Rattle.oth_rules.specs.Score.{disc_difference, score_of}
use Rattle.oth_rules.specs.Value.{value}
use Rattle.oth_rules.specs.Laws.{IsLegal}
use Rattle.oth_rules.specs.Stable.{IsStable, AreStable, IsLeftByStableDiscs}
use Rattle.oth_rules.proofs.Bits.{word_of-has}
use Rattle.oth_rules.proofs.Counts.{count_upto, count_by-squares, counts, ones-word_of, theirs_not_empty}
use Rattle.oth_rules.proofs.Positions.{cell-position_of, after-is}
use Rattle.oth_rules.proofs.Scores.{won, lost, drawn}
use Rattle.oth_rules.proofs.SearchLaws.{empty_count-after, empty_count-pass, legal-empty, some_legal, value-move_bound, value-move_reached, value-over, value-pass}

-- the squares of the set have stable discs of the given side
abbrev Held : (Position → ℕ → Bool) → Position → (ℕ → Bool) → Type 0
Held side p f = (s : ℕ) → s < 64 → f s ≡ true → (side p s ≡ true) × IsStable p s

-- ---- a stable disc stays so

never_flipped : (p : Position) (m s : ℕ) → IsLegal p m → IsStable p s → is_flipped p m s ≡ false
never_flipped p m s l h = ((h 1).0 m l).0

stable-after : (p : Position) (m s : ℕ) → IsLegal p m → IsStable p s → IsStable (after p m) s
stable-after p m s l h = λ n. ((h (suc n)).0 m l).1

stable-pass : (p : Position) (s : ℕ) → IsStable p s → IsStable (pass p) s
stable-pass p s h = λ n. (h (suc n)).1

-- ---- the cells after a change of roles

mine_opposite : (c : Cell) → is_theirs_cell c ≡ true → is_mine_cell (opposite_cell c) ≡ true
unfolding is_mine_cell is_theirs_cell opposite_cell
mine_opposite Mine e = e
mine_opposite Theirs e = refl
mine_opposite Empty e = e

theirs_opposite : (c : Cell) → is_mine_cell c ≡ true → is_theirs_cell (opposite_cell c) ≡ true
unfolding is_mine_cell is_theirs_cell opposite_cell
theirs_opposite Mine e = refl
theirs_opposite Theirs e = e
theirs_opposite Empty e = e

cell-pass : (p : Position) (s : ℕ) → s < 64 → cell (pass p) s ≡ opposite_cell (cell p s)
unfolding pass
cell-pass p s l = cell-position_of (λ q. opposite_cell (cell p q)) s l

mine_not_empty : (p : Position) (s : ℕ) → is_mine p s ≡ true → is_empty p s ≡ false
unfolding is_mine is_empty is_mine_cell is_empty_cell
mine_not_empty p s e = at (cell p s) e
  where
    at : (c : Cell) → is_mine_cell c ≡ true → is_empty_cell c ≡ false
    at Mine e = refl
    at Theirs e = refl
    at Empty e = sym e

-- a disc that a legal move does not flip changes its role only
cell-after : (p : Position) (m s : ℕ) → s < 64 → IsLegal p m → is_empty p s ≡ false → is_flipped p m s ≡ false →
    cell (after p m) s ≡ opposite_cell (cell p s)
cell-after p m s l legal full kept =
    ap (λ r. cell r s) (after-is p m)
    ∙ cell-position_of (λ q. opposite_cell (if q == m || is_flipped p m q then Mine else cell p q)) s l
    ∙ ap (λ b. opposite_cell (if b || is_flipped p m s then Mine else cell p s)) (ne_eqb s m other)
    ∙ ap (λ b. opposite_cell (if b then Mine else cell p s)) kept
  where
    other : s ≡ m → ⊥
    other e = false≢true (sym full ∙ ap (is_empty p) e ∙ legal-empty p m legal)

-- ---- the two sides take turns

mine-from_cell : (p r : Position) (s : ℕ) → cell r s ≡ opposite_cell (cell p s) →
    is_theirs p s ≡ true → is_mine r s ≡ true
unfolding is_mine is_theirs
mine-from_cell p r s e h = ap is_mine_cell e ∙ mine_opposite (cell p s) h

theirs-from_cell : (p r : Position) (s : ℕ) → cell r s ≡ opposite_cell (cell p s) →
    is_mine p s ≡ true → is_theirs r s ≡ true
unfolding is_mine is_theirs
theirs-from_cell p r s e h = ap is_theirs_cell e ∙ theirs_opposite (cell p s) h

mine-after : (p : Position) (m : ℕ) (f : ℕ → Bool) → IsLegal p m → Held is_theirs p f → Held is_mine (after p m) f
mine-after p m f legal h = λ s l e.
    let k = h s l e in
    let same = cell-after p m s l legal (theirs_not_empty p s k.0) (never_flipped p m s legal k.1) in
    (mine-from_cell p (after p m) s same k.0, stable-after p m s legal k.1)

theirs-after : (p : Position) (m : ℕ) (f : ℕ → Bool) → IsLegal p m → Held is_mine p f → Held is_theirs (after p m) f
theirs-after p m f legal h = λ s l e.
    let k = h s l e in
    let same = cell-after p m s l legal (mine_not_empty p s k.0) (never_flipped p m s legal k.1) in
    (theirs-from_cell p (after p m) s same k.0, stable-after p m s legal k.1)

mine-pass : (p : Position) (f : ℕ → Bool) → Held is_theirs p f → Held is_mine (pass p) f
mine-pass p f h = λ s l e.
    let k = h s l e in (mine-from_cell p (pass p) s (cell-pass p s l) k.0, stable-pass p s k.1)

theirs-pass : (p : Position) (f : ℕ → Bool) → Held is_mine p f → Held is_theirs (pass p) f
theirs-pass p f h = λ s l e.
    let k = h s l e in (theirs-from_cell p (pass p) s (cell-pass p s l) k.0, stable-pass p s k.1)

-- ---- the score of a finished game

count_upto-most : (f g : ℕ → Bool) (n : ℕ) → ((s : ℕ) → s < n → f s ≡ true → g s ≡ true) →
    count_upto n f ≤ count_upto n g
unfolding count_upto
count_upto-most f g zero h = omega arith
count_upto-most f g (suc n) h =
    omega (arith, one (f n) (g n) (h n (omega arith)), count_upto-most f g n (λ s l. h s (omega arith)))
  where
    one : (a b : Bool) → (a ≡ true → b ≡ true) → cond a 1 0 ≤ cond b 1 0
    one true b k = rw (k refl) (omega arith)
    one false b k = omega arith

-- at most 64 less twice k, and at least the negated number
abbrev IsHeldDown : ℕ → ℤ → Type 0
IsHeldDown k z = z ≤ℤ (pos 64 -ℤ pos (2 * k))

abbrev IsHeldUp : ℕ → ℤ → Type 0
IsHeldUp k z = (pos (2 * k) -ℤ pos 64) ≤ℤ z

score-down : (g : Scoring) (p : Position) (k : ℕ) → k ≤ theirs_count p → IsHeldDown k (score_of g p)
unfolding score_of disc_difference
score-down Discs p k h = omega (arith, ints, h, counts p)
score-down Winner p k h =
    let m = mine_count p in
    let t = theirs_count p in
    elim (cases_order m t) [
      | inl e ↦ let s = drawn p m t refl refl e in omega (arith, ints, s, h, counts p)
      | inr o ↦ elim o [
        | inl l ↦ let s = lost p m t refl refl l in omega (arith, ints, s, h, counts p)
        | inr l ↦ let s = won p m t refl refl l in omega (arith, ints, s, h, counts p)
      ]
    ]

score-up : (g : Scoring) (p : Position) (k : ℕ) → k ≤ mine_count p → IsHeldUp k (score_of g p)
unfolding score_of disc_difference
score-up Discs p k h = omega (arith, ints, h, counts p)
score-up Winner p k h =
    let m = mine_count p in
    let t = theirs_count p in
    elim (cases_order m t) [
      | inl e ↦ let s = drawn p m t refl refl e in omega (arith, ints, s, h, counts p)
      | inr o ↦ elim o [
        | inl l ↦ let s = lost p m t refl refl l in omega (arith, ints, s, h, counts p)
        | inr l ↦ let s = won p m t refl refl l in omega (arith, ints, s, h, counts p)
      ]
    ]

theirs_count-held : (p : Position) (f : ℕ → Bool) → Held is_theirs p f → count_upto 64 f ≤ theirs_count p
unfolding theirs_count
theirs_count-held p f h =
    rw (count_by-squares (is_theirs p)) (count_upto-most f (is_theirs p) 64 (λ s l e. (h s l e).0))

mine_count-held : (p : Position) (f : ℕ → Bool) → Held is_mine p f → count_upto 64 f ≤ mine_count p
unfolding mine_count
mine_count-held p f h =
    rw (count_by-squares (is_mine p)) (count_upto-most f (is_mine p) 64 (λ s l e. (h s l e).0))

-- ---- values turn with the roles

down-turned : (k : ℕ) (x y : ℤ) → x ≡ neg_ℤ y → IsHeldUp k y → IsHeldDown k x
down-turned k x y e h = omega (arith, ints, e, h)

up-turned : (k : ℕ) (x y : ℤ) → neg_ℤ y ≤ℤ x → IsHeldDown k y → IsHeldUp k x
up-turned k x y e h = omega (arith, ints, e, h)

same-≤ : (x y : ℤ) → x ≡ y → y ≤ℤ x
same-≤ x y e = omega (arith, ints, e)

module _ (g : Scoring) (f : ℕ → Bool) where
  abbrev k : ℕ
  k = count_upto 64 f

  abbrev v : Position → ℤ
  v p = value (score_of g) p

  -- the set's discs hold the value down where they are theirs, and up where they are mine
  record IsBounded (p : Position) : Type 0 where
    pub down : Held is_theirs p f → IsHeldDown k (v p)
    pub up : Held is_mine p f → IsHeldUp k (v p)

  by_moves : (p : Position) → can_move p ≡ true → ((m : ℕ) → IsLegal p m → IsBounded (after p m)) → IsBounded p
  by_moves p c h =
      let best = value-move_reached (score_of g) p c in
      let some = some_legal p c in
      record {
        down = λ t. down-turned k (v p) (v (after p best.0)) best.2
            ((h best.0 best.1).up (mine-after p best.0 f best.1 t));
        up = λ t. up-turned k (v p) (v (after p some.0))
            (value-move_bound (score_of g) p some.0 some.1) ((h some.0 some.1).down (theirs-after p some.0 f some.1 t));
      }

  by_pass : (p : Position) → can_move p ≡ false → can_move (pass p) ≡ true → IsBounded (pass p) → IsBounded p
  by_pass p c d h =
      let turned = value-pass (score_of g) p c d in
      record {
        down = λ t. down-turned k (v p) (v (pass p)) turned (h.up (mine-pass p f t));
        up = λ t. up-turned k (v p) (v (pass p))
            (same-≤ (v p) (neg_ℤ (v (pass p))) turned) (h.down (theirs-pass p f t));
      }

  by_end : (p : Position) → can_move p ≡ false → can_move (pass p) ≡ false → IsBounded p
  by_end p c d =
      let over = sym (value-over (score_of g) p c d) in
      record {
        down = λ t. subst (IsHeldDown k) over (score-down g p k (theirs_count-held p f t));
        up = λ t. subst (IsHeldUp k) over (score-up g p k (mine_count-held p f t));
      }

  -- a position with at most n empty squares, from those with fewer
  one_more : (n : ℕ) (p : Position) → ((q : Position) → empty_count q < n → IsBounded q) → empty_count p < suc n →
      IsBounded p
  one_more n p h l =
      elim (cases_Bool (can_move p)) [
        | inl c ↦ moved p l c
        | inr c ↦ elim (cases_Bool (can_move (pass p))) [
          | inl d ↦ by_pass p c d (moved (pass p) (omega (arith, l, empty_count-pass p)) d)
          | inr d ↦ by_end p c d
        ]
      ]
    where
      moved : (q : Position) → empty_count q < suc n → can_move q ≡ true → IsBounded q
      moved q few c = by_moves q c (λ m legal. h (after q m) (omega (arith, few, empty_count-after q m legal)))

  bounded : (n : ℕ) (p : Position) → empty_count p < n → IsBounded p
  bounded zero p l = absurd (omega (arith, l))
  bounded (suc n) p l = one_more n p (bounded n) l

ones-held : (w : ℕ) → w < 2 ^ 64 → count_upto 64 (has w) ≡ count_ones w
ones-held w l = sym (count_by-squares (has w)) ∙ sym (ones-word_of (has w)) ∙ ap count_ones (word_of-has w l)

-- stable discs of theirs: at most 64 less twice their number
pub stable-most : (g : Scoring) (p : Position) (w : ℕ) → w < 2 ^ 64 → AreStable p w →
    value (score_of g) p ≤ℤ (pos 64 -ℤ pos (2 * count_ones w))
stable-most g p w l h =
    let bound = bounded g (has w) (suc (empty_count p)) p (omega arith) in
    subst (λ k. IsHeldDown k (value (score_of g) p)) (ones-held w l) (bound.down h)

-- ---- what the code computes of the count

pub stable-computed : (v : ℤ) (k : ℕ) → k ≤ 64 → v ≤ℤ (pos 64 -ℤ pos (2 * k)) → v ≤ℤ to_z w8 (of_z w8 (to_z w8 (of_z w8 (pos 64 -ℤ to_z w8 k)) -ℤ to_z w8 k))
stable-computed v k l h = omega (arith, ints, l, h)

pub left-computed : (p : Position) (w : ℕ) → count_ones w ≤ 64 → AreStable p w
    → IsLeftByStableDiscs p (to_z w8 (of_z w8 (to_z w8 (of_z w8 (pos 64 -ℤ to_z w8 (count_ones w))) -ℤ to_z w8 (count_ones w))))
unfolding IsLeftByStableDiscs
left-computed p w l h = (w, h, same (count_ones w) l)
  where
    same : (k : ℕ) → k ≤ 64 → to_z w8 (of_z w8 (to_z w8 (of_z w8 (pos 64 -ℤ to_z w8 k)) -ℤ to_z w8 k)) ≡ pos 64 -ℤ pos (2 * k)
    same k l = omega (arith, ints, l)
