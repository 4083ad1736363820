-- Laws of the value of a position, which are all that a search needs.
use Rattle.std.proofs.Common.{◌≡◌, ℕ, zero, suc, ◌+◌, ◌<◌, ◌≤◌, ◌⊎◌, inl, inr, refl, sym, ap, ◌∙◌, List, [], ◌∷◌, map, length}
use Rattle.std.proofs.Common.{get_or, Bool, true, false, cond, Contains, All, arith, rules, fold, ⊎_elim}
use Rattle.std.specs.Prelude.{filter, ℤ, neg_ℤ, ◌≤ℤ◌, ◌==◌, ◌≢◌, not, ◌&&◌}
use Rattle.std.specs.Int.{int_max}
use Rattle.std.specs.List.{range_with_len}
use Rattle.std.proofs.lemmas.Int.{fold-int_max_bounds, fold-int_max_reached}
use Rattle.std.proofs.lemmas.List.Elements.{All-contains, All-cons, All-filter, filter_passes}
use Rattle.std.proofs.lemmas.List.{get_or-map, length-map}
use Rattle.std.proofs.lemmas.Bool.{cases_eq, false≢true, eq-eqb}
use Rattle.oth_rules.specs.declared.scoring.Scoring.{Scoring}
use Rattle.oth_rules.specs.Square.{has, word_of, squares}
use Rattle.oth_rules.specs.Position.{Position, pass, empty_count, is_empty}
use Rattle.oth_rules.specs.Move.{is_legal, is_flipped, is_over, legal_squares, can_move, after}
use Rattle.oth_rules.specs.Score.{score_of}
use Rattle.oth_rules.specs.Value.{greatest, value}
use Rattle.oth_rules.specs.Laws.{IsLegal, IsScore}
use Rattle.oth_rules.proofs.Bits.{has-word_of}
use Rattle.oth_rules.proofs.Counts as counts
use Rattle.oth_rules.proofs.Legal.{any_square, any_picks_square}
use Rattle.oth_rules.proofs.Scores.{does_move, cannot_move, score_bounds, value_bounds}
use Rattle.oth_rules.proofs.Values as values
use Rattle.oth_rules.proofs.Words.{flipped_some, flipped_none, legal_empty}

pub empty_count-after : (p : Position) (s : ℕ) → IsLegal p s → empty_count p ≡ suc (empty_count (after p s))
empty_count-after p s h = counts.empty_count-after p s h.on_board h.legal

pub empty_count-pass : (p : Position) → empty_count (pass p) ≡ empty_count p
empty_count-pass p = counts.empty_count-pass p

-- a filtered range has each number that passes
Contains-range : (f : ℕ → Bool) (a n s : ℕ) → a ≤ s → s < a + n → f s ≡ true → Contains (filter f (range_with_len a n)) s
Contains-range f a zero s low high h = absurd (omega arith)
Contains-range f a (suc n) s low high h =
    ⊎_elim here (λ other. let up : a + 1 ≤ s = omega arith in later (f a) (filter f (range_with_len (a + 1) n)) (Contains-range f (a + 1) n s up (omega arith) h)) (cases_eq a s)
  where
    later : (b : Bool) (xs : List ℕ) → Contains xs s → Contains (cond b (a ∷ xs) xs) s
    later true xs m = (suc m.0, omega (arith, m.1), m.2)
    later false xs m = m

    kept : (b : Bool) (x : ℕ) (xs : List ℕ) → b ≡ true → x ≡ s → Contains (cond b (x ∷ xs) xs) s
    kept b x xs e f = rw (e) (0, omega arith, f)

    here : a ≡ s → Contains (filter f (range_with_len a (suc n))) s
    here e = kept (f a) a (filter f (range_with_len (a + 1) n)) (ap f e ∙ h) e

All-range : (a n : ℕ) → All (λ s. s < a + n) (range_with_len a n)
All-range a zero = λ k d h. absurd (omega (arith, h))
All-range a (suc n) =
    All-cons (λ s. s < a + suc n) a (range_with_len (a + 1) n) (omega arith)
    (λ k d h. let m = All-range (a + 1) n k d h in omega (arith, m))

pub Contains-legal_squares : (p : Position) (s : ℕ) → IsLegal p s → Contains (legal_squares p) s
unfolding legal_squares squares
Contains-legal_squares p s h = Contains-range (is_legal p) 0 64 s (omega arith) (omega (arith, h.on_board)) h.legal

pub IsLegal-from_contains : (p : Position) (s : ℕ) → Contains (legal_squares p) s → IsLegal p s
unfolding legal_squares squares
IsLegal-from_contains p s h =
    let within = All-contains (λ x. x < 0 + 64) (filter (is_legal p) (range_with_len 0 64)) s (All-filter (is_legal p) (λ x. x < 0 + 64) (range_with_len 0 64) (All-range 0 64)) h in
    record {
      on_board = omega (arith, within);
      legal = All-contains (λ x. is_legal p x ≡ true) (filter (is_legal p) (range_with_len 0 64)) s (filter_passes (is_legal p) (range_with_len 0 64)) h;
    }

pub some_legal : (p : Position) → can_move p ≡ true → (s : ℕ) × IsLegal p s
unfolding can_move
some_legal p h = let v = any_picks_square (is_legal p) h in (v.0, record { on_board = v.1; legal = v.2 })

pub can_move-legal : (p : Position) (s : ℕ) → IsLegal p s → can_move p ≡ true
unfolding can_move
can_move-legal p s h = any_square (is_legal p) s h.on_board h.legal

pub IsScore-score_of : (g : Scoring) (p : Position) → IsScore (score_of g p)
IsScore-score_of g p = score_bounds g p

pub IsScore-value : (g : Scoring) (p : Position) → IsScore (value (score_of g) p)
IsScore-value g p = value_bounds g p

pub has-moves : (p : Position) (s : ℕ) → s < 64 → has (word_of (is_legal p)) s ≡ is_legal p s
has-moves p s h = has-word_of (is_legal p) s h

pub can_move-moves : (p : Position) → word_of (is_legal p) ≢ 0 → can_move p ≡ true
can_move-moves p h = does_move p (word_of (is_legal p)) refl h

pub can_move-no_moves : (p : Position) → word_of (is_legal p) ≡ 0 → can_move p ≡ false
can_move-no_moves p h = cannot_move p (word_of (is_legal p)) refl h

pub value-over : (score : Position → ℤ) (p : Position) → can_move p ≡ false → can_move (pass p) ≡ false → value score p ≡ score p
value-over score p h k = values.value-over score p h k

pub value-pass : (score : Position → ℤ) (p : Position) → can_move p ≡ false → can_move (pass p) ≡ true → value score p ≡ neg_ℤ (value score (pass p))
value-pass score p h k = values.value-pass score p h k

-- the greatest of a list

greatest_bound : (xs : List ℤ) (z : ℤ) → Contains xs z → z ≤ℤ greatest xs
unfolding greatest
greatest_bound [] z h = let q : h.0 < 0 = h.1 in absurd (omega arith)
greatest_bound (x ∷ xs) z h =
    let b = fold-int_max_bounds x xs (fold int_max x xs) refl in
    All-contains (λ y. y ≤ℤ fold int_max x xs) (x ∷ xs) z (All-cons (λ y. y ≤ℤ fold int_max x xs) x xs b.0 b.1) h

-- the greatest is a member, where the list has one
greatest_reached : (xs : List ℤ) (z : ℤ) → Contains xs z → Contains xs (greatest xs)
unfolding greatest
greatest_reached [] z h = let q : h.0 < 0 = h.1 in absurd (omega arith)
greatest_reached (x ∷ xs) z h =
    ⊎_elim (λ e. (0, omega arith, sym e)) (λ h. (suc h.0, omega (arith, h.1), h.2)) (fold-int_max_reached x xs (fold int_max x xs) refl)

Contains-map : (f : ℕ → ℤ) (xs : List ℕ) (s : ℕ) → Contains xs s → Contains (map f xs) (f s)
Contains-map f xs s h = (h.0, rw length-map (h.1), get_or-map f xs h.0 s (f s) h.1 ∙ ap f h.2)

-- a member of a mapped list is the image of a member
Contains-from_map : (f : ℕ → ℤ) (xs : List ℕ) (z : ℤ) → Contains (map f xs) z → (s : ℕ) × Contains xs s × (z ≡ f s)
Contains-from_map f xs z h =
    let k : h.0 < length xs = rw length-map at h.1 in
    (get_or xs h.0 0, (h.0, k, search rules), sym h.2 ∙ get_or-map f xs h.0 0 z k)

-- no move gives more than the value
pub value-move_bound : (score : Position → ℤ) (p : Position) (s : ℕ) → IsLegal p s → neg_ℤ (value score (after p s)) ≤ℤ value score p
value-move_bound score p s h =
    let f = λ (t : ℕ). neg_ℤ (value score (after p t)) in
    rw (values.value-move score p (can_move-legal p s h)) (greatest_bound (map f (legal_squares p)) (f s) (Contains-map f (legal_squares p) s (Contains-legal_squares p s h)))

-- some move gives the value
pub value-move_reached : (score : Position → ℤ) (p : Position) → can_move p ≡ true → (s : ℕ) × IsLegal p s × (value score p ≡ neg_ℤ (value score (after p s)))
value-move_reached score p h =
    let some = some_legal p h in
    let f = λ (t : ℕ). neg_ℤ (value score (after p t)) in
    let member = greatest_reached (map f (legal_squares p)) (f some.0) (Contains-map f (legal_squares p) some.0 (Contains-legal_squares p some.0 some.1)) in
    let found = Contains-from_map f (legal_squares p) (greatest (map f (legal_squares p))) member in
    (found.0, IsLegal-from_contains p found.0 found.1, values.value-move score p h ∙ found.2)

pub is_over-true : (p : Position) → is_over p ≡ true → (can_move p ≡ false) × (can_move (pass p) ≡ false)
unfolding is_over
is_over-true p h = both (can_move p) (can_move (pass p)) h
  where
    both : (a b : Bool) → (not a && not b) ≡ true → (a ≡ false) × (b ≡ false)
    both true b h = absurd (cc h)
    both false true h = absurd (cc h)
    both false false h = (refl, refl)

pub is_over-false : (p : Position) → is_over p ≡ false → (can_move p ≡ true) ⊎ (can_move (pass p) ≡ true)
unfolding is_over
is_over-false p h = one (can_move p) (can_move (pass p)) h
  where
    one : (a b : Bool) → (not a && not b) ≡ false → (a ≡ true) ⊎ (b ≡ true)
    one true b h = inl refl
    one false true h = inr refl
    one false false h = absurd (cc h)

-- a square that is empty after a move was empty before, and is not the move's
pub empty_before : (p : Position) (s q : ℕ) → q < 64 → is_empty (after p s) q ≡ true → (is_empty p q ≡ true) × (q ≢ s)
empty_before p s q l h = parts (is_empty p q) (q == s) (sym (counts.empty_after p s q l) ∙ h) (eq-eqb q s)
  where
    parts : (a b : Bool) → (a && not b) ≡ true → (q ≡ s → b ≡ true) → (a ≡ true) × (q ≢ s)
    parts true true h f = absurd (false≢true h)
    parts true false h f = (refl, λ e. absurd (false≢true (f e)))
    parts false b h f = absurd (false≢true h)

-- where a move flips something it is legal
pub flips-legal : (p : Position) (s w : ℕ) → s < 64 → w ≡ word_of (is_flipped p s) → w ≢ 0 → IsLegal p s
flips-legal p s w l e n = record { on_board = l; legal = flipped_some p s w e n }

pub legal-flips : (p : Position) (s w : ℕ) → w ≡ word_of (is_flipped p s) → IsLegal p s → w ≢ 0
legal-flips p s w e legal = λ z. false≢true (sym (flipped_none p s w e z) ∙ legal.legal)

pub empty_before_pass : (p : Position) (q : ℕ) → q < 64 → is_empty (pass p) q ≡ true → is_empty p q ≡ true
empty_before_pass p q l h = sym (counts.empty-pass p q l) ∙ h

pub empty-word : (p : Position) (w : ℕ) → w ≡ word_of (is_empty p) → (s : ℕ) → s < 64 → has w s ≡ is_empty p s
empty-word p w e s l = ap (λ x. has x s) e ∙ has-word_of (is_empty p) s l

pub legal-empty : (p : Position) (s : ℕ) → IsLegal p s → is_empty p s ≡ true
legal-empty p s h = legal_empty p s h.legal
