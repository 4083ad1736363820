-- The loop over the moves of a root: the best score so far and the moves that reach it.
use Rattle.std.proofs.Common.{◌≡◌, ◌⊎◌, inl, inr, ⊎_elim, ℕ, ◌<◌, ◌^◌, Bool, true, false, ◌&&◌, refl, sym, ap, subst, ◌∙◌, arith}
use Rattle.std.specs.Prelude.{ℤ, pos, negsuc, neg_ℤ, ◌-ℤ◌, ◌≤ℤ◌, ◌<ℤ◌}
use Rattle.std.specs.Ordering.{int_eq}
use Rattle.std.proofs.lemmas.Int.{ints, by_lt_z}
use Rattle.std.proofs.lemmas.Bool.{false≢true, cases_eq}
use Rattle.std.proofs.lemmas.Bool.Decides.{Decides-int_eq}
use Rattle.oth_rules.specs.Symmetry.{image}
use Rattle.oth_rules.proofs.Symmetries.{can_move-image, pass-image}
use Rattle.oth_rules.specs.declared.scoring.Scoring.{Scoring}
use Rattle.oth_rules.specs.Square.{has, word_of}
use Rattle.oth_rules.specs.Position.{Position, pass}
use Rattle.oth_search.specs.declared.bounds.kind.Kind.TheVariants.{Move, Pass, End}
use Rattle.oth_search.specs.Bounds.Answer.{kind_of}
use Rattle.oth_rules.specs.Move.{is_legal, can_move, after}
use Rattle.oth_rules.specs.Score.{score_of}
use Rattle.oth_rules.specs.Value.{value, is_best}
use Rattle.oth_rules.specs.Laws.{IsLegal, IsScore}
use Rattle.oth_rules.proofs.SearchLaws.{value-move_bound, value-move_reached, value-pass, IsScore-value, can_move-legal}
use Rattle.oth_rules.proofs.Bits.{is_word_of, has-zero}
use Rattle.oth_search.specs.Bounds.Interval.{Encloses, Decides, IsInterval}
use Rattle.oth_search.specs.Bounds.Squares.{With}
use Rattle.oth_search.proofs.BoundsLemmas.SquareSets.{Takes}

-- what a move gives
abbrev pub gives : Scoring → Position → ℕ → ℤ
gives g p s = neg_ℤ (value (score_of g) (after p s))

-- a tried move: no better than the score, and marked where it reaches it
pub record Settled (g : Scoring) (p : Position) (score : ℤ) (best : ℕ) (s : ℕ) : Type 0 where
  pub below : gives g p s ≤ℤ score
  pub marked : gives g p s ≡ score → has best s ≡ true

pub record RootLoop (g : Scoring) (p : Position) (left : ℕ → Type 0) (score : ℤ) (best : ℕ) : Type 0 where
  pub range : IsScore score
  pub reached : score ≤ℤ value (score_of g) p
  pub untried : (s : ℕ) → left s → IsLegal p s
  pub tried : (s : ℕ) → IsLegal p s → left s ⊎ Settled g p score best s
  pub legal : (s : ℕ) → s < 64 → has best s ≡ true → IsLegal p s
  pub reaches : (s : ℕ) → has best s ≡ true → gives g p s ≡ score

-- a move that is worse changes nothing
pub RootLoop-worse : (g : Scoring) (p : Position) (left : ℕ → Type 0) (s : ℕ) (rest : ℕ → Type 0) (score : ℤ) (best : ℕ) → RootLoop g p left score best → Takes left s rest
    → gives g p s <ℤ score → RootLoop g p rest score best
RootLoop-worse g p left s rest score best l k worse = record {
  range = l.range;
  reached = l.reached;
  untried = λ t h. l.untried t (k.kept t h);
  tried = λ t legal. ⊎_elim
      (λ h. ⊎_elim (λ e. inr (subst (Settled g p score best) (sym e) settled)) inl (k.split t h))
      inr
      (l.tried t legal);
  legal = l.legal;
  reaches = l.reaches;
}
  where
    settled : Settled g p score best s
    settled = record { below = omega (arith, ints, worse); marked = λ e. absurd (omega (arith, ints, worse, e)) }

-- a move that reaches the score is marked
pub RootLoop-equal : (g : Scoring) (p : Position) (left : ℕ → Type 0) (s : ℕ) (rest : ℕ → Type 0) (score : ℤ) (best all : ℕ) → RootLoop g p left score best → Takes left s rest
    → gives g p s ≡ score → With best s all → RootLoop g p rest score all
RootLoop-equal g p left s rest score best all l k equal w = record {
  range = l.range;
  reached = l.reached;
  untried = λ t h. l.untried t (k.kept t h);
  tried = λ t legal. ⊎_elim
      (λ e. inr (subst (Settled g p score all) (sym e) settled))
      (λ other. ⊎_elim
      (λ h. ⊎_elim (λ e. absurd (other e)) inl (k.split t h))
      (λ old. inr (record { below = old.below; marked = λ e. w.others t other ∙ old.marked e }))
      (l.tried t legal))
      (cases_eq t s);
  legal = λ t within h. ⊎_elim
      (λ e. subst (IsLegal p) (sym e) (l.untried s k.member))
      (λ other. l.legal t within (sym (w.others t other) ∙ h))
      (cases_eq t s);
  reaches = λ t h. ⊎_elim
      (λ e. ap (gives g p) e ∙ equal)
      (λ other. l.reaches t (sym (w.others t other) ∙ h))
      (cases_eq t s);
}
  where
    settled : Settled g p score all s
    settled = record { below = omega (arith, ints, equal); marked = λ e. w.added }

-- a better move is the only one marked
pub RootLoop-better : (g : Scoring) (p : Position) (left : ℕ → Type 0) (s : ℕ) (rest : ℕ → Type 0) (score : ℤ) (best : ℕ) (r : ℤ) (all : ℕ) → RootLoop g p left score best
    → Takes left s rest → gives g p s ≡ r → score <ℤ r → With 0 s all → RootLoop g p rest r all
RootLoop-better g p left s rest score best r all l k equal better w = record {
  range = subst IsScore equal (IsScore-gives g p s);
  reached = omega (arith, ints, equal, value-move_bound (score_of g) p s (l.untried s k.member));
  untried = λ t h. l.untried t (k.kept t h);
  tried = λ t legal. ⊎_elim
      (λ e. inr (subst (Settled g p r all) (sym e) settled))
      (λ other. ⊎_elim
      (λ h. ⊎_elim (λ e. absurd (other e)) inl (k.split t h))
      (λ old. inr (record { below = omega (arith, ints, old.below); marked = λ e. absurd (omega (arith, ints, old.below, e)) }))
      (l.tried t legal))
      (cases_eq t s);
  legal = λ t within h. ⊎_elim
      (λ e. subst (IsLegal p) (sym e) (l.untried s k.member))
      (λ other. absurd (false≢true (sym (w.others t other ∙ has-zero t) ∙ h)))
      (cases_eq t s);
  reaches = λ t h. ⊎_elim
      (λ e. ap (gives g p) e ∙ equal)
      (λ other. absurd (false≢true (sym (w.others t other ∙ has-zero t) ∙ h)))
      (cases_eq t s);
}
  where
    IsScore-gives : (g : Scoring) (p : Position) (s : ℕ) → IsScore (gives g p s)
    IsScore-gives g p s = let v = IsScore-value g (after p s) in record { low = omega (arith, ints, v.high); high = omega (arith, ints, v.low) }

    settled : Settled g p r all s
    settled = record { below = omega (arith, ints, equal); marked = λ e. w.added }

-- before the first move, with a lower bound of the value
pub RootLoop-start : (g : Scoring) (p : Position) (left : ℕ → Type 0) (lower upper score : ℤ) (best : ℕ) → IsInterval lower upper → Encloses lower upper (value (score_of g) p)
    → score ≡ lower → best ≡ 0 → ((s : ℕ) → left s → IsLegal p s) → ((s : ℕ) → IsLegal p s → left s) → RootLoop g p left score best
RootLoop-start g p left lower upper score best i h e none untried all =
    record {
      range = record { low = omega (arith, ints, i.low); high = omega (arith, ints, i.ordered, i.high) };
      reached = omega (arith, ints, h.below);
      untried = untried;
      tried = λ s h. inl (all s h);
      legal = λ s within h. absurd (false≢true (sym (ap (λ w. has w s) none ∙ has-zero s) ∙ h));
      reaches = λ s h. absurd (false≢true (sym (ap (λ w. has w s) none ∙ has-zero s) ∙ h));
    }

-- with no move left, the score is the value
pub RootLoop-score : (g : Scoring) (p : Position) (left : ℕ → Type 0) (score : ℤ) (best : ℕ) → RootLoop g p left score best → ((s : ℕ) → left s → ⊥) → can_move p ≡ true → score ≡ value (score_of g) p
RootLoop-score g p left score best l none some =
    let top = value-move_reached (score_of g) p some in
    let reached = l.reached in
    ⊎_elim (λ h. absurd (none top.0 h)) (λ done. omega (arith, ints, done.below, top.2)) (l.tried top.0 top.1)

-- and the marked moves are the best ones
pub RootLoop-best : (g : Scoring) (p : Position) (left : ℕ → Type 0) (score : ℤ) (best : ℕ) → best < 2 ^ 64 → RootLoop g p left score best → ((s : ℕ) → left s → ⊥)
    → score ≡ value (score_of g) p → best ≡ word_of (is_best (score_of g) p)
unfolding is_best
RootLoop-best g p left score best fits l none is_value =
    is_word_of best (is_best (score_of g) p) fits each
  where
    -- two tests that are true together
    same : (a b : Bool) → (a ≡ true → b ≡ true) → (b ≡ true → a ≡ true) → a ≡ b
    same true b f h = sym (f refl)
    same false true f h = absurd (false≢true (h refl))
    same false false f h = refl

    both : (a b : Bool) → a ≡ true → b ≡ true → (a && b) ≡ true
    both true true f h = refl
    both true false f h = h
    both false b f h = f

    left_of : (a b : Bool) → (a && b) ≡ true → a ≡ true
    left_of true b h = refl
    left_of false b h = h

    right_of : (a b : Bool) → (a && b) ≡ true → b ≡ true
    right_of true b h = h
    right_of false b h = absurd (false≢true h)

    settled : (s : ℕ) → IsLegal p s → Settled g p score best s
    settled s legal = ⊎_elim (λ h. absurd (none s h)) (λ done. done) (l.tried s legal)

    each : (s : ℕ) → s < 64 → has best s ≡ is_best (score_of g) p s
    each s within = same (has best s) (is_legal p s && int_eq (gives g p s) (value (score_of g) p))
        (λ h. let legal = l.legal s within h in both (is_legal p s) (int_eq (gives g p s) (value (score_of g) p)) legal.legal
        ((Decides-int_eq (gives g p s) (value (score_of g) p)).1 (l.reaches s h ∙ is_value)))
        (λ h. let legal : IsLegal p s = record { on_board = within; legal = left_of (is_legal p s) (int_eq (gives g p s) (value (score_of g) p)) h } in
        (settled s legal).marked ((Decides-int_eq (gives g p s) (value (score_of g) p)).0 (right_of (is_legal p s) (int_eq (gives g p s) (value (score_of g) p)) h) ∙ sym is_value))

-- what a search of the child with the window below the score tells of the move

pub gives_less : (g : Scoring) (p q : Position) (s : ℕ) (score lower upper : ℤ) → q ≡ after p s → Encloses lower upper (value (score_of g) q) → neg_ℤ score <ℤ lower → gives g p s <ℤ score
gives_less g p q s score lower upper e h above =
    let v = subst (λ x. Encloses lower upper (value (score_of g) x)) e h in
    omega (arith, ints, v.below)

pub gives_exactly : (g : Scoring) (p q : Position) (s : ℕ) (score lower upper alpha beta : ℤ) → q ≡ after p s → Encloses lower upper (value (score_of g) q) → IsInterval lower upper
    → Decides lower upper alpha beta → alpha ≡ negsuc 64 → beta ≡ pos 1 -ℤ score → lower ≤ℤ neg_ℤ score → gives g p s ≡ neg_ℤ lower
gives_exactly g p q s score lower upper alpha beta e h i d low high below =
    let v = subst (λ x. Encloses lower upper (value (score_of g) x)) e h in
    ⊎_elim
    (λ one. omega (arith, ints, v.below, v.above, one))
    (λ out. ⊎_elim (λ k. absurd (omega (arith, ints, k))) (λ k. absurd (omega (arith, ints, k, i.low, i.ordered))) out)
    d

-- a move that is not worse is marked: alone where it gives more than the score, else beside the others
pub RootLoop-reached : (g : Scoring) (p q : Position) (left : ℕ → Type 0) (s : ℕ) (rest : ℕ → Type 0) (score : ℤ) (best : ℕ) (lower upper alpha beta r : ℤ) (all : ℕ)
    → RootLoop g p left score best → Takes left s rest → q ≡ after p s → Encloses lower upper (value (score_of g) q) → IsInterval lower upper
    → Decides lower upper alpha beta → alpha ≡ negsuc 64 → beta ≡ pos 1 -ℤ score → lower ≤ℤ neg_ℤ score → r ≡ neg_ℤ lower
    → (r ≡ score → With best s all) → (score <ℤ r → With 0 s all) → RootLoop g p rest r all
RootLoop-reached g p q left s rest score best lower upper alpha beta r all l k e h i d low high below is equal better =
    let exactly = gives_exactly g p q s score lower upper alpha beta e h i d low high below ∙ sym is in
    by_lt_z score r
    (λ more. RootLoop-better g p left s rest score best r all l k exactly more (better more))
    (λ no_more.
    let same : r ≡ score = omega (arith, ints, no_more, is, below) in
    subst (λ x. RootLoop g p rest x all) (sym same) (RootLoop-equal g p left s rest score best all l k (exactly ∙ same) (equal same)))

-- the kind of a board, by its three cases

pub kind-move : (p : Position) → can_move p ≡ true → Move ≡ kind_of p
unfolding kind_of
kind-move p h = rw h refl

pub kind-pass : (p : Position) → can_move p ≡ false → can_move (pass p) ≡ true → Pass ≡ kind_of p
unfolding kind_of
kind-pass p h k = rw (h, k) refl

pub kind-end : (p : Position) → can_move p ≡ false → can_move (pass p) ≡ false → End ≡ kind_of p
unfolding kind_of
kind-end p h k = rw (h, k) refl

-- where the mover cannot move, no move is best
pub none_best : (g : Scoring) (p : Position) (w : ℕ) → can_move p ≡ false → w ≡ 0 → w ≡ word_of (is_best (score_of g) p)
unfolding is_best
none_best g p w h e =
    is_word_of w (is_best (score_of g) p) (omega arith) each
  where
    left_false : (a b : Bool) → (a ≡ true → ⊥) → false ≡ (a && b)
    left_false true b f = absurd (f refl)
    left_false false b f = refl

    each : (s : ℕ) → s < 64 → has w s ≡ is_best (score_of g) p s
    each s within = ap (λ x. has x s) e ∙ has-zero s ∙ left_false (is_legal p s) (int_eq (gives g p s) (value (score_of g) p))
        (λ legal. false≢true (sym h ∙ can_move-legal p s (record { on_board = within; legal = legal })))

-- a forced pass turns the sign of the value
pub negated_value : (g : Scoring) (p q : Position) (s r : ℤ) → q ≡ pass p → can_move p ≡ false → can_move (pass p) ≡ true → s ≡ value (score_of g) q → r ≡ neg_ℤ s → r ≡ value (score_of g) p
negated_value g p q s r is none some e f =
    let v = subst (λ x. s ≡ value (score_of g) x) is e in
    omega (arith, ints, v, f, value-pass (score_of g) p none some)

-- ---- the answer of an image

pub kind-image : (s : ℕ) (p q : Position) → s < 8 → q ≡ image s p → kind_of q ≡ kind_of p
unfolding kind_of
kind-image s p q l e =
    let same : can_move q ≡ can_move p = ap can_move e ∙ can_move-image s l p in
    let other : can_move (pass q) ≡ can_move (pass p) = ap (λ r. can_move (pass r)) e ∙ ap can_move (pass-image s l p) ∙ can_move-image s l (pass p) in
    rw (same, other) refl
