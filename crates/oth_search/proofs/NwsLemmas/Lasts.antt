-- The last few empty squares, one after another.
use Rattle.std.proofs.Common.{◌≡◌, ◌≢◌, ◌⊎◌, inl, inr, ⊎_elim, ℕ, ◌<◌, ◌^◌, Bool, true, false, not, ◌&&◌, refl, sym, ap, subst, ◌∙◌, arith, List, [], ◌∷◌, ◌++◌}
use Rattle.std.specs.Prelude.{◌==◌, ℤ, pos, neg_ℤ, ◌-ℤ◌, ◌≤ℤ◌, ◌<ℤ◌}
use Rattle.std.proofs.lemmas.Int.{ints, by_lt_z}
use Rattle.std.proofs.lemmas.Bool.{cases_Bool, cases_eq, false≢true, eq-eqb, ne_eqb}
use Rattle.std.proofs.Math.Bool.{and-true, and-false}
use Rattle.oth_rules.proofs.Bits.{is_word_of, word_of-same}
use Rattle.oth_rules.specs.declared.scoring.Scoring.{Scoring}
use Rattle.oth_rules.specs.Square.{squares, word_of, has}
use Rattle.oth_rules.proofs.Counts as counts
use Rattle.oth_rules.proofs.Counts.{count_by-same}
use Rattle.oth_rules.specs.Position.{Position, is_empty, pass, empty_count}
use Rattle.oth_rules.specs.Move.{after, can_move}
use Rattle.oth_rules.specs.Score.{score_of}
use Rattle.oth_rules.specs.Value.{value}
use Rattle.oth_rules.specs.Laws.{IsLegal, IsScore}
use Rattle.oth_rules.proofs.SearchLaws.{value-move_reached, can_move-legal, some_legal, value-over, value-pass, IsScore-value, IsScore-score_of}
use Rattle.oth_search.specs.Bounds.Interval.{BoundsAt, IsThreshold}
use Rattle.oth_search.specs.Bounds.Squares.{In, Without}
use Rattle.oth_rules.proofs.SearchLaws.{legal-empty, empty_before, empty_before_pass, empty-word}
use Rattle.oth_search.specs.Nws.Lasts.{OneOf, AreEmpty, Leaves, no_move, GivesAt, MovesAt}
use Rattle.oth_search.proofs.BoundsLemmas.SquareSets.{Takes-without, In-none}
use Rattle.oth_search.proofs.BoundsLemmas.Replies.{BoundsAt-reply, BoundsAt-pass, BoundsAt-over, BoundsAt-cut}

cases_lt_z : (a b : ℤ) → (a <ℤ b) ⊎ (b ≤ℤ a)
cases_lt_z a b = by_lt_z a b inl inr

-- z is the greater of x and y
pub record IsGreater (x y z : ℤ) : Type 0 where
  pub left : x ≤ℤ z
  pub right : y ≤ℤ z
  pub one : (z ≡ x) ⊎ (z ≡ y)

-- ---- which squares are left

still_empty : (p : Position) (s q : ℕ) → q < 64 → is_empty p q ≡ true → q ≢ s → is_empty (after p s) q ≡ true
still_empty p s q within e other = counts.empty_after p s q within ∙ ap (λ b. b && not (q == s)) e ∙ ap not (ne_eqb q s other)

still_empty_pass : (p : Position) (q : ℕ) → q < 64 → is_empty p q ≡ true → is_empty (pass p) q ≡ true
still_empty_pass p q within e = counts.empty-pass p q within ∙ e

-- a move to another square leaves them empty
AreEmpty-after : (p : Position) (s : ℕ) (xs : List ℕ) → AreEmpty p xs → (OneOf xs s → ⊥) → AreEmpty (after p s) xs
AreEmpty-after p s [] h other = tt
AreEmpty-after p s (x ∷ xs) h other = (h.0, still_empty p s x h.0 h.1 (λ e. other (inl (sym e))), h.2, AreEmpty-after p s xs h.3 (λ o. other (inr o)))

AreEmpty-pass : (p : Position) (xs : List ℕ) → AreEmpty p xs → AreEmpty (pass p) xs
AreEmpty-pass p [] h = tt
AreEmpty-pass p (x ∷ xs) h = (h.0, still_empty_pass p x h.0 h.1, h.2, AreEmpty-pass p xs h.3)

-- the first two squares change places
AreEmpty-swap : (p : Position) (a b : ℕ) (xs : List ℕ) → AreEmpty p (a ∷ b ∷ xs) → AreEmpty p (b ∷ a ∷ xs)
AreEmpty-swap p a b xs h =
    (h.3.0, h.3.1, (λ o. ⊎_elim (λ e. h.2 (inl (sym e))) h.3.2 o), (h.0, h.1, (λ o. h.2 (inr o)), h.3.3))

pub Leaves-after : (p q : Position) (s : ℕ) (xs : List ℕ) → Leaves p (s ∷ xs) → q ≡ after p s → Leaves q xs
Leaves-after p q s xs l e = record {
  only = λ t within h.
      let before = empty_before p s t within (subst (λ x. is_empty x t ≡ true) e h) in
      ⊎_elim (λ same. absurd (before.1 same)) (λ other. other) (l.only t within before.0);
  each = subst (λ x. AreEmpty x xs) (sym e) (AreEmpty-after p s xs l.each.3 l.each.2);
}

pub Leaves-pass : (p q : Position) (xs : List ℕ) → Leaves p xs → q ≡ pass p → Leaves q xs
Leaves-pass p q xs l e = record {
  only = λ t within h. l.only t within (empty_before_pass p t within (subst (λ x. is_empty x t ≡ true) e h));
  each = subst (λ x. AreEmpty x xs) (sym e) (AreEmpty-pass p xs l.each);
}

second : (A B C : Type 0) → A ⊎ (B ⊎ C) → B ⊎ (A ⊎ C)
second A B C h = ⊎_elim (λ a. inr (inl a)) (λ o. ⊎_elim inl (λ c. inr (inr c)) o) h

pub Leaves-second : (p : Position) (a b : ℕ) (xs : List ℕ) → Leaves p (a ∷ b ∷ xs) → Leaves p (b ∷ a ∷ xs)
Leaves-second p a b xs l = record {
  only = λ t within h. second (t ≡ a) (t ≡ b) (OneOf xs t) (l.only t within h);
  each = AreEmpty-swap p a b xs l.each;
}

-- the squares behind the first change places
Leaves-behind : (p : Position) (a : ℕ) (xs ys : List ℕ) → Leaves p (a ∷ xs) → ((s : ℕ) → OneOf xs s → OneOf ys s) → ((s : ℕ) → OneOf ys s → OneOf xs s) → (AreEmpty p xs → AreEmpty p ys)
    → Leaves p (a ∷ ys)
Leaves-behind p a xs ys l to from turned = record {
  only = λ t within h. ⊎_elim inl (λ o. inr (to t o)) (l.only t within h);
  each = (l.each.0, l.each.1, (λ o. l.each.2 (from a o)), turned l.each.3);
}

pub Leaves-third : (p : Position) (a b c : ℕ) (xs : List ℕ) → Leaves p (a ∷ b ∷ c ∷ xs) → Leaves p (c ∷ a ∷ b ∷ xs)
Leaves-third p a b c xs l =
    Leaves-second p a c (b ∷ xs)
    (Leaves-behind p a (b ∷ c ∷ xs) (c ∷ b ∷ xs) l (λ t. second (t ≡ b) (t ≡ c) (OneOf xs t)) (λ t. second (t ≡ c) (t ≡ b) (OneOf xs t)) (AreEmpty-swap p b c xs))

pub Leaves-fourth : (p : Position) (a b c d : ℕ) (xs : List ℕ) → Leaves p (a ∷ b ∷ c ∷ d ∷ xs) → Leaves p (d ∷ a ∷ b ∷ c ∷ xs)
Leaves-fourth p a b c d xs l =
    Leaves-third p a b d (c ∷ xs)
    (Leaves-behind p a (b ∷ c ∷ d ∷ xs) (b ∷ d ∷ c ∷ xs) l
    (λ t. ⊎_elim inl (λ o. inr (second (t ≡ c) (t ≡ d) (OneOf xs t) o)))
    (λ t. ⊎_elim inl (λ o. inr (second (t ≡ d) (t ≡ c) (OneOf xs t) o)))
    (λ h. (h.0, h.1, (λ o. h.2 (second (b ≡ d) (b ≡ c) (OneOf xs b) o)), AreEmpty-swap p c d xs h.3)))

pub Leaves-none : (p : Position) → Leaves p [] → can_move p ≡ false
Leaves-none p l = ⊎_elim
    (λ some. let m = some_legal p some in absurd (l.only m.0 m.1.on_board (legal-empty p m.0 m.1)))
    (λ none. none)
    (cases_Bool (can_move p))

-- these squares are empty, and those of the set, and no other
pub record LeavesBut (p : Position) (squares : List ℕ) (set : ℕ) : Type 0 where
  pub only : (s : ℕ) → s < 64 → is_empty p s ≡ true → OneOf squares s ⊎ In set s
  pub each : AreEmpty p squares
  pub inside : (s : ℕ) → In set s → is_empty p s ≡ true
  pub apart : (s : ℕ) → In set s → OneOf squares s → ⊥

OneOf-first : (xs ys : List ℕ) (s : ℕ) → OneOf xs s → OneOf (xs ++ ys) s
OneOf-first [] ys s h = absurd h
OneOf-first (x ∷ xs) ys s h = ⊎_elim inl (λ o. inr (OneOf-first xs ys s o)) h

OneOf-last : (xs : List ℕ) (a s : ℕ) → s ≡ a → OneOf (xs ++ a ∷ []) s
OneOf-last [] a s h = inl h
OneOf-last (x ∷ xs) a s h = inr (OneOf-last xs a s h)

OneOf-either : (xs : List ℕ) (a s : ℕ) → OneOf (xs ++ a ∷ []) s → OneOf xs s ⊎ (s ≡ a)
OneOf-either [] a s h = ⊎_elim inr (λ o. absurd o) h
OneOf-either (x ∷ xs) a s h = ⊎_elim (λ e. inl (inl e)) (λ o. ⊎_elim (λ k. inl (inr k)) inr (OneOf-either xs a s o)) h

AreEmpty-more : (p : Position) (xs : List ℕ) (a : ℕ) → AreEmpty p xs → a < 64 → is_empty p a ≡ true → (OneOf xs a → ⊥) → AreEmpty p (xs ++ a ∷ [])
AreEmpty-more p [] a h within e other = (within, e, (λ o. o), tt)
AreEmpty-more p (x ∷ xs) a h within e other =
    (h.0, h.1, (λ o. ⊎_elim h.2 (λ same. other (inl (sym same))) (OneOf-either xs a x o)), AreEmpty-more p xs a h.3 within e (λ o. other (inr o)))

pub LeavesBut-start : (p : Position) (w : ℕ) → w ≡ word_of (is_empty p) → LeavesBut p [] w
LeavesBut-start p w e = record {
  only = λ s within h. inr (record { on_board = within; member = empty-word p w e s within ∙ h });
  each = tt;
  inside = λ s h. sym (empty-word p w e s h.on_board) ∙ h.member;
  apart = λ s h o. o;
}

pub LeavesBut-next : (p : Position) (xs : List ℕ) (set a rest : ℕ) → LeavesBut p xs set → In set a → Without set a rest → LeavesBut p (xs ++ a ∷ []) rest
LeavesBut-next p xs set a rest l h w =
    let k = Takes-without set a rest h w in
    record {
      only = λ s within e. ⊎_elim
          (λ old. inl (OneOf-first xs (a ∷ []) s old))
          (λ here. ⊎_elim (λ same. inl (OneOf-last xs a s same)) inr (k.split s here))
          (l.only s within e);
      each = AreEmpty-more p xs a l.each h.on_board (l.inside a h) (l.apart a h);
      inside = λ s r. l.inside s (k.kept s r);
      apart = λ s r o. ⊎_elim
          (λ old. l.apart s (k.kept s r) old)
          (λ same. false≢true (sym w.taken ∙ ap (has rest) (sym same) ∙ r.member))
          (OneOf-either xs a s o);
    }

pub Leaves-all : (p : Position) (xs : List ℕ) (set : ℕ) → LeavesBut p xs set → set ≡ 0 → Leaves p xs
Leaves-all p xs set l e = record {
  only = λ s within h. ⊎_elim (λ old. old) (λ here. absurd (In-none set e s here)) (l.only s within h);
  each = l.each;
}

-- the empty squares after a move, and after a pass
pub empties-after : (p q : Position) (s set rest : ℕ) → q ≡ after p s → set ≡ word_of (is_empty p) → Without set s rest → rest < 2 ^ 64 → rest ≡ word_of (is_empty q)
empties-after p q s set rest is e w fits =
    is_word_of rest (is_empty q) fits
    (λ t l. ⊎_elim
    (λ same. ap (has rest) same ∙ w.taken ∙ sym (taken t same l))
    (λ other. w.others t l other ∙ empty-word p set e t l ∙ sym (kept t other l))
    (cases_eq t s))
  where
    taken : (t : ℕ) → t ≡ s → t < 64 → is_empty q t ≡ false
    taken t same l = ap (λ x. is_empty x t) is ∙ counts.empty_after p s t l ∙ ap (λ b. is_empty p t && not b) (eq-eqb t s same) ∙ and-false (is_empty p t)

    kept : (t : ℕ) → t ≢ s → t < 64 → is_empty q t ≡ is_empty p t
    kept t other l = ap (λ x. is_empty x t) is ∙ counts.empty_after p s t l ∙ ap (λ b. is_empty p t && not b) (ne_eqb t s other) ∙ and-true (is_empty p t)

pub empties-pass : (p q : Position) (set : ℕ) → q ≡ pass p → set ≡ word_of (is_empty p) → set ≡ word_of (is_empty q)
empties-pass p q set is e = e ∙ word_of-same (is_empty p) (is_empty q) (λ t l. sym (ap (λ x. is_empty x t) is ∙ counts.empty-pass p t l))

-- ---- the moves to these squares, one after another

pub GivesAt-none : (g : Scoring) (p : Position) (s : ℕ) (alpha r : ℤ) → r ≡ no_move → (IsLegal p s → ⊥) → GivesAt (score_of g) p s alpha r
GivesAt-none g p s alpha r e none = record { low = omega (arith, ints); none = λ _. none; some = λ h. absurd (omega (arith, ints)) }

pub GivesAt-reply : (g : Scoring) (p q : Position) (s : ℕ) (alpha beta r t : ℤ) → q ≡ after p s → IsLegal p s → beta ≡ neg_ℤ alpha -ℤ pos 1 → r ≡ neg_ℤ t
    → BoundsAt (value (score_of g) q) beta t → GivesAt (score_of g) p s alpha r
GivesAt-reply g p q s alpha beta r t is legal e f b =
    let reply = BoundsAt-reply g p q s alpha beta r t is e f b in
    let low = reply.score.low in
    record { low = omega (arith, ints); none = λ h. absurd (omega (arith, ints)); some = λ h. record { legal = legal; bound = reply } }

-- the squares left of those that may be empty, and the best that the others give
pub record Tried (g : Scoring) (p : Position) (alpha : ℤ) (squares : List ℕ) (best : ℤ) : Type 0 where
  pub low : no_move ≤ℤ best
  pub high : best ≤ℤ alpha
  pub some : no_move <ℤ best → IsScore best × (can_move p ≡ true)
  pub tried : (s : ℕ) → IsLegal p s → OneOf squares s ⊎ (neg_ℤ (value (score_of g) (after p s)) ≤ℤ best)

-- what a move gives is at most its bound
GivesAt-most : (g : Scoring) (p : Position) (s : ℕ) (alpha r : ℤ) → GivesAt (score_of g) p s alpha r → r ≤ℤ alpha → IsLegal p s → neg_ℤ (value (score_of g) (after p s)) ≤ℤ r
GivesAt-most g p s alpha r h low legal =
    ⊎_elim (λ e. absurd (h.none e legal)) (λ more. (h.some more).bound.fails_low low) (no_or_some r h.low)
  where
    no_or_some : (r : ℤ) → no_move ≤ℤ r → (r ≡ no_move) ⊎ (no_move <ℤ r)
    no_or_some r h = ⊎_elim (λ below. inr below) (λ at. inl (omega (arith, ints, at))) (cases_lt_z no_move r)

pub Tried-first : (g : Scoring) (p : Position) (alpha : ℤ) (s : ℕ) (xs : List ℕ) (r : ℤ) → Leaves p (s ∷ xs) → GivesAt (score_of g) p s alpha r → r ≤ℤ alpha → Tried g p alpha xs r
Tried-first g p alpha s xs r l h low = record {
  low = h.low;
  high = low;
  some = λ more. let reply = h.some more in (reply.bound.score, can_move-legal p s reply.legal);
  tried = λ t legal. ⊎_elim
      (λ e. inr (subst (λ x. neg_ℤ (value (score_of g) (after p x)) ≤ℤ r) (sym e) (GivesAt-most g p s alpha r h low (subst (IsLegal p) e legal))))
      inl
      (l.only t legal.on_board (legal-empty p t legal));
}

pub Tried-next : (g : Scoring) (p : Position) (alpha : ℤ) (s : ℕ) (xs : List ℕ) (best r m : ℤ) → Tried g p alpha (s ∷ xs) best → GivesAt (score_of g) p s alpha r → IsGreater best r m
    → m ≤ℤ alpha → Tried g p alpha xs m
Tried-next g p alpha s xs best r m l h k low = record {
  low = omega (arith, ints, l.low, k.left);
  high = low;
  some = λ more. ⊎_elim
      (λ e. let old = l.some (subst (λ x. no_move <ℤ x) e more) in (subst IsScore (sym e) old.0, old.1))
      (λ e. let reply = h.some (subst (λ x. no_move <ℤ x) e more) in (subst IsScore (sym e) reply.bound.score, can_move-legal p s reply.legal))
      k.one;
  tried = λ t legal. ⊎_elim
      (λ left. ⊎_elim
      (λ e. inr (subst (λ x. neg_ℤ (value (score_of g) (after p x)) ≤ℤ m) (sym e)
      (let most = GivesAt-most g p s alpha r h (omega (arith, ints, k.right, low)) (subst (IsLegal p) e legal) in omega (arith, ints, most, k.right))))
      inl
      left)
      (λ old. inr (omega (arith, ints, old, k.left)))
      (l.tried t legal);
}

-- a move above the threshold
pub MovesAt-cut : (g : Scoring) (p : Position) (s : ℕ) (alpha r : ℤ) → IsThreshold alpha → GivesAt (score_of g) p s alpha r → alpha <ℤ r → MovesAt (score_of g) p alpha r
MovesAt-cut g p s alpha r a h above =
    let low = a.low in
    let more : no_move <ℤ r = omega (arith, ints) in
    let reply = h.some more in
    record {
      low = h.low;
      none = λ e. absurd (omega (arith, ints, e));
      can = λ _. can_move-legal p s reply.legal;
      some = λ _. BoundsAt-cut g p s alpha r reply.legal reply.bound above;
    }

-- a later move above the threshold
pub MovesAt-later : (g : Scoring) (p : Position) (s : ℕ) (xs : List ℕ) (alpha best r m : ℤ) → IsThreshold alpha → Tried g p alpha xs best → GivesAt (score_of g) p s alpha r
    → IsGreater best r m → alpha <ℤ m → MovesAt (score_of g) p alpha m
MovesAt-later g p s xs alpha best r m a l h k above =
    ⊎_elim
    (λ e. absurd (omega (arith, ints, e, l.high)))
    (λ e. subst (MovesAt (score_of g) p alpha) (sym e) (MovesAt-cut g p s alpha r a h (omega (arith, ints, e))))
    k.one

-- no square is left
MovesAt-tried : (g : Scoring) (p : Position) (alpha best : ℤ) → IsThreshold alpha → Tried g p alpha [] best → MovesAt (score_of g) p alpha best
MovesAt-tried g p alpha best a l = record {
  low = l.low;
  none = λ e. ⊎_elim
      (λ some. let top = value-move_reached (score_of g) p some in
      let v = IsScore-value g p in
      absurd (omega (arith, ints, e, top.2, v.low, most top.0 top.1)))
      (λ none. none)
      (cases_Bool (can_move p));
  can = λ more. (l.some more).1;
  some = λ more. record {
    score = (l.some more).0;
    fails_low = λ _. let top = value-move_reached (score_of g) p (l.some more).1 in omega (arith, ints, top.2, most top.0 top.1);
    fails_high = λ h. absurd (omega (arith, ints, l.high));
  };
}
  where
    most : (s : ℕ) → IsLegal p s → neg_ℤ (value (score_of g) (after p s)) ≤ℤ best
    most s legal = ⊎_elim (λ left. absurd left) (λ old. old) (l.tried s legal)

-- after the last square
pub MovesAt-last : (g : Scoring) (p : Position) (s : ℕ) (alpha best r m : ℤ) → IsThreshold alpha → Tried g p alpha (s ∷ []) best → GivesAt (score_of g) p s alpha r → IsGreater best r m
    → MovesAt (score_of g) p alpha m
MovesAt-last g p s alpha best r m a l h k =
    ⊎_elim
    (λ above. MovesAt-later g p s (s ∷ []) alpha best r m a l h k above)
    (λ low. MovesAt-tried g p alpha m a (Tried-next g p alpha s [] best r m l h k low))
    (cases_lt_z alpha m)

-- ---- the mover moves, passes, or the game is over

above : (r : ℤ) → no_move ≤ℤ r → r ≢ no_move → no_move <ℤ r
above r h other = ⊎_elim (λ k. k) (λ k. absurd (other (omega (arith, ints, k)))) (cases_lt_z no_move r)

pub BoundsAt-moves : (g : Scoring) (p : Position) (alpha r t : ℤ) → r ≡ t → MovesAt (score_of g) p alpha t → t ≢ no_move → BoundsAt (value (score_of g) p) alpha r
BoundsAt-moves g p alpha r t e m some = rw (e) (m.some (above t m.low some))

pub BoundsAt-after_pass : (g : Scoring) (p q : Position) (alpha beta r t : ℤ) → q ≡ pass p → can_move p ≡ false → beta ≡ neg_ℤ alpha -ℤ pos 1
    → r ≡ neg_ℤ t → MovesAt (score_of g) q beta t → t ≢ no_move → BoundsAt (value (score_of g) p) alpha r
BoundsAt-after_pass g p q alpha beta r t is none f k n some =
    let more = above t n.low some in
    BoundsAt-pass g p q alpha beta r t is none (n.can more) f k (n.some more)

pub BoundsAt-at_end : (g : Scoring) (p q : Position) (alpha beta none' r : ℤ) → q ≡ pass p → can_move p ≡ false → MovesAt (score_of g) q beta none'
    → none' ≡ no_move → r ≡ score_of g p → BoundsAt (value (score_of g) p) alpha r
BoundsAt-at_end g p q alpha beta none' r is none n f k = BoundsAt-over g p q alpha r is none (n.none f) k

pub BoundsAt-passed : (g : Scoring) (p q : Position) (alpha beta none r t : ℤ) → q ≡ pass p → MovesAt (score_of g) p alpha none → none ≡ no_move → beta ≡ neg_ℤ alpha -ℤ pos 1
    → r ≡ neg_ℤ t → MovesAt (score_of g) q beta t → t ≢ no_move → BoundsAt (value (score_of g) p) alpha r
BoundsAt-passed g p q alpha beta none r t is m e f k n some = BoundsAt-after_pass g p q alpha beta r t is (m.none e) f k n some

pub BoundsAt-ended : (g : Scoring) (p q : Position) (alpha beta none none' r : ℤ) → q ≡ pass p → MovesAt (score_of g) p alpha none → none ≡ no_move → MovesAt (score_of g) q beta none'
    → none' ≡ no_move → r ≡ score_of g p → BoundsAt (value (score_of g) p) alpha r
BoundsAt-ended g p q alpha beta none none' r is m e n f k = BoundsAt-at_end g p q alpha beta none' r is (m.none e) n f k

-- ---- a full board

pub no_empties : (p : Position) → Leaves p [] → empty_count p ≡ 0
unfolding empty_count squares
no_empties p l = count_by-same (is_empty p) (λ s. false) (λ s within. not_true (is_empty p s) (l.only s within))
  where
    not_true : (b : Bool) → (b ≡ true → ⊥) → b ≡ false
    not_true true f = absurd (f refl)
    not_true false f = refl

-- ---- one empty square

-- with no square left the game is over
value-full : (g : Scoring) (p : Position) → Leaves p [] → value (score_of g) p ≡ score_of g p
value-full g p l = value-over (score_of g) p (Leaves-none p l) (Leaves-none (pass p) (Leaves-pass p (pass p) [] l refl))

pub value-one : (g : Scoring) (p q : Position) (a : ℕ) (r t : ℤ) → Leaves p (a ∷ []) → IsLegal p a → q ≡ after p a → t ≡ score_of g q → r ≡ neg_ℤ t → r ≡ value (score_of g) p
value-one g p q a r t l legal is e f =
    let top = value-move_reached (score_of g) p (can_move-legal p a legal) in
    let same : top.0 ≡ a = ⊎_elim (λ h. h) (λ h. absurd h) (l.only top.0 top.1.on_board (legal-empty p top.0 top.1)) in
    let full = value-full g q (Leaves-after p q a [] l is) in
    f ∙ ap neg_ℤ (e ∙ sym full ∙ ap (value (score_of g)) is) ∙ ap (λ s. neg_ℤ (value (score_of g) (after p s))) (sym same) ∙ sym top.2

pub only_move : (p : Position) (a : ℕ) → Leaves p (a ∷ []) → (IsLegal p a → ⊥) → can_move p ≡ false
only_move p a l none = ⊎_elim
    (λ some. let m = some_legal p some in
    absurd (none (subst (IsLegal p) (⊎_elim (λ h. h) (λ h. absurd h) (l.only m.0 m.1.on_board (legal-empty p m.0 m.1))) m.1)))
    (λ no. no)
    (cases_Bool (can_move p))

pub value-one_passed : (g : Scoring) (p q z : Position) (a : ℕ) (r : ℤ) → Leaves p (a ∷ []) → (IsLegal p a → ⊥) → q ≡ pass p → IsLegal q a → z ≡ after q a → r ≡ score_of g z → r ≡ value (score_of g) p
value-one_passed g p q z a r l none is legal next e =
    let one = value-one g q z a (neg_ℤ r) r (Leaves-pass p q (a ∷ []) l is) legal next e refl in
    let turn = value-pass (score_of g) p (only_move p a l none) (rw is at (can_move-legal q a legal)) in
    let here = subst (λ x. neg_ℤ r ≡ value (score_of g) x) is one in
    omega (arith, ints, turn, here)

pub value-one_over : (g : Scoring) (p q : Position) (a : ℕ) (r : ℤ) → Leaves p (a ∷ []) → (IsLegal p a → ⊥) → q ≡ pass p → (IsLegal q a → ⊥) → r ≡ score_of g p → r ≡ value (score_of g) p
value-one_over g p q a r l none is passed e =
    e ∙ sym (value-over (score_of g) p (only_move p a l none) (rw is at (only_move q a (Leaves-pass p q (a ∷ []) l is) passed)))

pub BoundsAt-value : (g : Scoring) (p : Position) (alpha r t : ℤ) → r ≡ t → t ≡ value (score_of g) p → BoundsAt (value (score_of g) p) alpha r
BoundsAt-value g p alpha r t e f =
    let v = IsScore-value g p in
    record { score = record { low = omega (arith, ints, v.low); high = omega (arith, ints, v.high) }; fails_low = λ h. omega (arith, ints); fails_high = λ h. omega (arith, ints) }

pub BoundsAt-full : (g : Scoring) (p : Position) (alpha r : ℤ) → Leaves p [] → r ≡ score_of g p → BoundsAt (value (score_of g) p) alpha r
BoundsAt-full g p alpha r l e = BoundsAt-value g p alpha r (score_of g p) e (sym (value-full g p l))

-- ---- the same under other names of the numbers

pub greater-of : (x y z x' y' : ℤ) → x' ≡ x → y' ≡ y → x' ≤ℤ z → y' ≤ℤ z → (z ≡ x') ⊎ (z ≡ y') → IsGreater x y z
greater-of x y z x' y' e f h k one = record {
  left = omega (arith, ints, e, h);
  right = omega (arith, ints, f, k);
  one = ⊎_elim (λ a. inl (a ∙ e)) (λ b. inr (b ∙ f)) one;
}

pub GivesAt-same : (g : Scoring) (p : Position) (s : ℕ) (alpha beta r : ℤ) → beta ≡ alpha → GivesAt (score_of g) p s beta r → GivesAt (score_of g) p s alpha r
GivesAt-same g p s alpha beta r e h = rw (← e) h

pub MovesAt-same : (g : Scoring) (p : Position) (alpha r t : ℤ) → r ≡ t → MovesAt (score_of g) p alpha t → MovesAt (score_of g) p alpha r
MovesAt-same g p alpha r t e h = rw (e) h

pub MovesAt-at : (g : Scoring) (p : Position) (alpha beta r : ℤ) → beta ≡ alpha → MovesAt (score_of g) p beta r → MovesAt (score_of g) p alpha r
MovesAt-at g p alpha beta r e h = rw (← e) h

pub IsScore-score : (g : Scoring) (p : Position) → IsScore (score_of g p)
IsScore-score g p = IsScore-score_of g p
