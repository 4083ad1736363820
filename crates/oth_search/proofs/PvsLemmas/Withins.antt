-- A loop over the replies with a window of any width (a node on the principal variation): what it keeps, and what follows.
use Rattle.std.proofs.Common.{◌≡◌, ◌⊎◌, inl, inr, ⊎_elim, ℕ, true, false, arith, sym, ◌∙◌, subst, w8, to_z, of_z}
use Rattle.std.specs.Prelude.{ℤ, pos, negsuc, neg_ℤ, ◌-ℤ◌, ◌≤ℤ◌, ◌<ℤ◌}
use Rattle.std.proofs.lemmas.Int.{ints, by_lt_z}
use Rattle.oth_rules.specs.declared.scoring.Scoring.{Scoring}
use Rattle.oth_rules.specs.Position.{Position, pass}
use Rattle.oth_rules.specs.Move.{can_move, after}
use Rattle.oth_rules.specs.Score.{score_of}
use Rattle.oth_rules.specs.Value.{value}
use Rattle.oth_rules.specs.Laws.{IsLegal, IsScore}
use Rattle.oth_rules.proofs.SearchLaws.{value-move_bound, value-pass, value-over, IsScore-score_of}
use Rattle.oth_search.specs.Bounds.Interval.{BoundsAt, WithinAt, IsInner, IsInterval, Decides, IsOpen, IsWindow}
use Rattle.oth_search.proofs.BoundsLemmas.SquareSets.{Takes}
use Rattle.oth_search.proofs.NwsLemmas.Lasts.{IsGreater}
use Rattle.oth_search.proofs.BoundsLemmas.Replies.{NoneAbove, NoneAbove-next, NoneAbove-end}

pub WithinAt-negated : (v alpha beta low high r s : ℤ) → low ≡ neg_ℤ beta → high ≡ neg_ℤ alpha → r ≡ neg_ℤ s → WithinAt v low high s → WithinAt (neg_ℤ v) alpha beta r
WithinAt-negated v alpha beta low high r s e f k w = record {
  score = record { low = omega (arith, ints, w.score.high); high = omega (arith, ints, w.score.low) };
  above = λ h. let m : low <ℤ s = omega (arith, ints) in omega (arith, ints, w.below m);
  below = λ h. let m : s <ℤ high = omega (arith, ints) in omega (arith, ints, w.above m);
}

-- a null window tells enough where its bound lies on one side of the window
pub WithinAt-nws : (v alpha beta r : ℤ) → BoundsAt v alpha r → (r ≤ℤ alpha) ⊎ (beta ≤ℤ r) → alpha <ℤ beta → WithinAt v alpha beta r
WithinAt-nws v alpha beta r b side wide = record {
  score = b.score;
  above = λ h. ⊎_elim (λ low. b.fails_low low) (λ high. absurd (omega (arith, ints, high))) side;
  below = λ h. b.fails_high h;
}

pub WithinAt-same : (v w alpha beta low high r s : ℤ) → v ≡ w → alpha ≡ low → beta ≡ high → r ≡ s → WithinAt w low high s → WithinAt v alpha beta r
WithinAt-same v w alpha beta low high r s e f k m h = rw (e, f, k, m) h

-- what the loop keeps: the best is the value if it is above alpha and no other move gives more
pub record WithinLoop (g : Scoring) (p : Position) (alpha beta : ℤ) (left : ℕ → Type 0) (best : ℤ) : Type 0 where
  pub score : IsScore best
  pub in_reach : best <ℤ beta
  pub reached : alpha <ℤ best → best ≤ℤ value (score_of g) p
  pub replies : NoneAbove g p left best

pub WithinLoop-start : (g : Scoring) (p : Position) (alpha beta : ℤ) (left : ℕ → Type 0) (best : ℤ) → best ≡ negsuc 63 → IsInner alpha beta → NoneAbove g p left best
    → WithinLoop g p alpha beta left best
WithinLoop-start g p alpha beta left best e w n = record {
  score = record { low = omega (arith, ints); high = omega (arith, ints) };
  in_reach = omega (arith, ints, w.low, w.ordered);
  reached = λ h. absurd (omega (arith, ints, w.low));
  replies = n;
}

-- what a reply above the lower end gives is at most the value
reply_reached : (g : Scoring) (p : Position) (s : ℕ) (low beta r : ℤ) → IsLegal p s → WithinAt (neg_ℤ (value (score_of g) (after p s))) low beta r → low <ℤ r → r ≤ℤ value (score_of g) p
reply_reached g p s low beta r legal w h = let gives = w.below h in let move = value-move_bound (score_of g) p s legal in omega (arith, ints)

pub WithinLoop-next : (g : Scoring) (p : Position) (alpha beta : ℤ) (left : ℕ → Type 0) (s : ℕ) (rest : ℕ → Type 0) (best low r next : ℤ) → WithinLoop g p alpha beta left best
    → Takes left s rest → WithinAt (neg_ℤ (value (score_of g) (after p s))) low beta r → IsGreater alpha best low → r <ℤ beta → IsGreater best r next
    → WithinLoop g p alpha beta rest next
WithinLoop-next g p alpha beta left s rest best low r next l k w from below most = record {
  score = ⊎_elim (λ e. subst IsScore (sym e) l.score) (λ e. subst IsScore (sym e) w.score) most.one;
  in_reach = ⊎_elim (λ e. omega (arith, ints, e, l.in_reach)) (λ e. omega (arith, ints, e)) most.one;
  reached = λ h. ⊎_elim (λ e. old e h) (λ e. new e h) most.one;
  replies = NoneAbove-next g p left s rest best next l.replies k most.left (let gives = w.above below in omega (arith, ints, gives, most.right));
}
  where
    old : next ≡ best → alpha <ℤ next → next ≤ℤ value (score_of g) p
    old e h = let reached = l.reached (omega (arith, ints, e, h)) in omega (arith, ints, e, reached)

    new : next ≡ r → alpha <ℤ next → next ≤ℤ value (score_of g) p
    new e h = by_lt_z best r
        (λ better. let within : low <ℤ r = ⊎_elim (λ f. omega (arith, ints, e, f, h)) (λ f. omega (arith, ints, f, better)) from.one in
        let reached = reply_reached g p s low beta r (l.replies.untried s k.member) w within in omega (arith, ints, e, reached))
        (λ no_better. old (omega (arith, ints, e, no_better, most.left)) h)

-- a reply at or above beta ends the loop
pub WithinAt-cut : (g : Scoring) (p : Position) (alpha beta : ℤ) (left : ℕ → Type 0) (s : ℕ) (best low r : ℤ) → WithinLoop g p alpha beta left best → left s
    → WithinAt (neg_ℤ (value (score_of g) (after p s))) low beta r → IsGreater alpha best low → IsInner alpha beta → beta ≤ℤ r → WithinAt (value (score_of g) p) alpha beta r
WithinAt-cut g p alpha beta left s best low r l h w from inner out =
    let above : low <ℤ r = ⊎_elim (λ f. omega (arith, ints, f, inner.ordered, out)) (λ f. omega (arith, ints, f, l.in_reach, out)) from.one in
    let reached = reply_reached g p s low beta r (l.replies.untried s h) w above in
    record { score = w.score; above = λ k. absurd (omega (arith, ints, k, out)); below = λ _. reached }

pub WithinAt-end : (g : Scoring) (p : Position) (alpha beta : ℤ) (left : ℕ → Type 0) (best : ℤ) → WithinLoop g p alpha beta left best → ((s : ℕ) → left s → ⊥) → can_move p ≡ true
    → WithinAt (value (score_of g) p) alpha beta best
WithinAt-end g p alpha beta left best l none some = record {
  score = l.score;
  above = λ _. NoneAbove-end g p left best l.replies none some;
  below = l.reached;
}

-- the window of a later move
pub IsInner-next : (alpha beta best low : ℤ) → IsInner alpha beta → best <ℤ beta → IsGreater alpha best low → IsInner low beta
IsInner-next alpha beta best low w wide from = record {
  low = omega (arith, ints, w.low, from.left);
  ordered = ⊎_elim (λ f. omega (arith, ints, f, w.ordered)) (λ f. omega (arith, ints, f, wide)) from.one;
  high = w.high;
}

pub IsInner-negated : (alpha beta low high : ℤ) → low ≡ neg_ℤ beta → high ≡ neg_ℤ alpha → IsInner alpha beta → IsInner low high
IsInner-negated alpha beta low high e f w = record {
  low = omega (arith, ints, e, w.high);
  ordered = omega (arith, ints, e, f, w.ordered);
  high = omega (arith, ints, f, w.low);
}

pub IsInner-same : (alpha beta low high : ℤ) → low ≡ alpha → high ≡ beta → IsInner alpha beta → IsInner low high
IsInner-same alpha beta low high e f w = rw (e, f) w

-- a forced pass
pub WithinAt-pass : (g : Scoring) (p q : Position) (alpha beta low high r s : ℤ) → q ≡ pass p → can_move p ≡ false → can_move q ≡ true → low ≡ neg_ℤ beta → high ≡ neg_ℤ alpha
    → r ≡ neg_ℤ s → WithinAt (value (score_of g) q) low high s → WithinAt (value (score_of g) p) alpha beta r
WithinAt-pass g p q alpha beta low high r s is none some e f k w =
    let turn = value-pass (score_of g) p none (rw is at some) in
    let bound = WithinAt-negated (value (score_of g) q) alpha beta low high r s e f k w in
    rw (turn, ← is) bound

pub WithinAt-over : (g : Scoring) (p q : Position) (alpha beta r : ℤ) → q ≡ pass p → can_move p ≡ false → can_move q ≡ false → r ≡ score_of g p → WithinAt (value (score_of g) p) alpha beta r
WithinAt-over g p q alpha beta r is none over e =
    let v = value-over (score_of g) p none (rw is at over) in
    record {
      score = subst IsScore (sym e) (IsScore-score_of g p);
      above = λ _. omega (arith, ints, e, v);
      below = λ _. omega (arith, ints, e, v);
    }

-- ---- what a search with a window tells of a board with known bounds

-- a bound within the window of what the child gives, at the move's square
pub WithinAt-reply : (g : Scoring) (p q : Position) (s : ℕ) (alpha beta low high r : ℤ) → q ≡ after p s → alpha ≡ low → beta ≡ high → WithinAt (neg_ℤ (value (score_of g) q)) low high r
    → WithinAt (neg_ℤ (value (score_of g) (after p s))) alpha beta r
WithinAt-reply g p q s alpha beta low high r e f h w = rw (f, h, ← e) w

pub WithinLoop-same : (g : Scoring) (p : Position) (alpha beta : ℤ) (left : ℕ → Type 0) (best t : ℤ) → best ≡ t → WithinLoop g p alpha beta left t → WithinLoop g p alpha beta left best
WithinLoop-same g p alpha beta left best t e l = rw (e) l

-- a number, as an argument of type i8 is read
abbrev read_i8 : ℤ → ℤ
read_i8 z = to_z w8 (of_z w8 z)

-- low..high is the window alpha..beta, cut to the known bounds
pub record Cut (alpha beta lower upper low high : ℤ) : Type 0 where
  pub from : (low ≡ alpha) ⊎ (low ≡ lower)
  pub to : (high ≡ beta) ⊎ (high ≡ upper)
  pub inner : IsInner low high

pub cut : (alpha beta lower upper low high : ℤ) → IsWindow alpha beta → IsInterval lower upper → IsOpen lower upper alpha beta → read_i8 lower ≤ℤ low
    → (low ≡ read_i8 alpha) ⊎ (low ≡ read_i8 lower) → high ≤ℤ read_i8 upper → (high ≡ read_i8 beta) ⊎ (high ≡ read_i8 upper) → Cut alpha beta lower upper (read_i8 low) (read_i8 high)
cut alpha beta lower upper low high w i o least from most to =
    let a : read_i8 alpha ≡ alpha = omega (arith, ints, w.low, w.ordered, w.high) in
    let b : read_i8 beta ≡ beta = omega (arith, ints, w.low, w.ordered, w.high) in
    let l : read_i8 lower ≡ lower = omega (arith, ints, i.low, i.ordered, i.high) in
    let u : read_i8 upper ≡ upper = omega (arith, ints, i.low, i.ordered, i.high) in
    let starts : (low ≡ alpha) ⊎ (low ≡ lower) = ⊎_elim (λ h. inl (h ∙ a)) (λ h. inr (h ∙ l)) from in
    let ends : (high ≡ beta) ⊎ (high ≡ upper) = ⊎_elim (λ h. inl (h ∙ b)) (λ h. inr (h ∙ u)) to in
    let wide : low <ℤ high = ⊎_elim
    (λ h. ⊎_elim (λ k. omega (arith, ints, h, k, w.ordered)) (λ k. omega (arith, ints, h, k, o.above)) ends)
    (λ h. ⊎_elim (λ k. omega (arith, ints, h, k, o.below)) (λ k. omega (arith, ints, h, k, o.wide)) ends)
    starts in
    let below : low <ℤ pos 64 = omega (arith, ints, wide, most, u, i.high) in
    let above : negsuc 63 ≤ℤ low = omega (arith, ints, least, l, i.low) in
    let reaches : high ≤ℤ pos 64 = omega (arith, ints, most, u, i.high) in
    let s : read_i8 low ≡ low = omega (arith, ints, above, below) in
    let t : read_i8 high ≡ high = omega (arith, ints, above, wide, reaches) in
    rw (s, t) (record { from = starts; to = ends; inner = record { low = above; ordered = wide; high = reaches } })

-- a search with a window is a null-window search at its lower end, and one just below its upper end
pub BoundsAt-low : (v w low high r : ℤ) → v ≡ w → IsInner low high → WithinAt w low high r → BoundsAt v low (read_i8 r)
BoundsAt-low v w low high r e i h =
    let s : read_i8 r ≡ r = omega (arith, ints, h.score.low, h.score.high) in
    rw (e, s) (record {
      score = h.score;
      fails_low = λ k. h.above (omega (arith, ints, k, i.ordered));
      fails_high = h.below;
    })

pub BoundsAt-high : (v w low high r : ℤ) → v ≡ w → IsInner low high → WithinAt w low high r → BoundsAt v (read_i8 (high -ℤ pos 1)) (read_i8 r)
BoundsAt-high v w low high r e i h =
    let s : read_i8 r ≡ r = omega (arith, ints, h.score.low, h.score.high) in
    let t : read_i8 (high -ℤ pos 1) ≡ high -ℤ pos 1 = omega (arith, ints, i.low, i.ordered, i.high) in
    rw (e, s, t) (record {
      score = h.score;
      fails_low = λ k. h.above (omega (arith, ints, k));
      fails_high = λ k. h.below (omega (arith, ints, k, i.ordered));
    })

-- l..u is what a null-window search at a threshold leaves of the bounds lower..upper
pub record Narrowed (lower upper at found l u : ℤ) : Type 0 where
  pub above : at <ℤ found → (l ≡ found) × (u ≡ upper)
  pub below : found ≤ℤ at → (l ≡ lower) × (u ≡ found)

-- both null-window searches decide the whole window
pub Decides-narrowed : (alpha beta lower upper low high found l u least most : ℤ) → Cut alpha beta lower upper low high → Narrowed lower upper low found l u
    → Narrowed l u (read_i8 (high -ℤ pos 1)) found least most → least ≤ℤ most → Decides least most alpha beta
Decides-narrowed alpha beta lower upper low high found l u least most c m n ordered =
    let at : read_i8 (high -ℤ pos 1) ≡ high -ℤ pos 1 = omega (arith, ints, c.inner.low, c.inner.ordered, c.inner.high) in
    by_lt_z low found
    (λ above.
    let f = m.above above in
    by_lt_z (high -ℤ pos 1) found
    (λ out. let s = n.above (omega (arith, ints, out, at)) in
    ⊎_elim
    (λ h. inr (inl (omega (arith, ints, h, out, s.0))))
    (λ h. inl (omega (arith, ints, h, out, s.0, s.1, f.1, ordered)))
    c.to)
    (λ inside. let s = n.below (omega (arith, ints, inside, at)) in inl (omega (arith, ints, s.0, s.1, f.0))))
    (λ below.
    let f = m.below below in
    let s = n.below (omega (arith, ints, below, c.inner.ordered, at)) in
    ⊎_elim
    (λ h. inr (inr (omega (arith, ints, h, below, s.1))))
    (λ h. inl (omega (arith, ints, h, below, s.0, s.1, f.0, ordered)))
    c.from)

pub Decides-same : (lower upper alpha beta low high : ℤ) → low ≡ alpha → high ≡ beta → Decides lower upper low high → Decides lower upper alpha beta
Decides-same lower upper alpha beta low high e f d = rw (← e, ← f) d

-- a search above a bound that a null-window search found inside the window
pub WithinAt-above : (v alpha beta found low r m : ℤ) → BoundsAt v alpha found → alpha <ℤ found → low ≡ found → WithinAt v low beta r → IsGreater found r m → WithinAt v alpha beta m
WithinAt-above v alpha beta found low r m b above same w most = record {
  score = ⊎_elim (λ e. subst IsScore (sym e) b.score) (λ e. subst IsScore (sym e) w.score) most.one;
  above = λ h. let bound = w.above (omega (arith, ints, h, most.right)) in omega (arith, ints, bound, most.right);
  below = λ h. ⊎_elim
      (λ e. let least = b.fails_high above in omega (arith, ints, e, least))
      (λ e. by_lt_z found r
      (λ better. let least = w.below (omega (arith, ints, better, same)) in omega (arith, ints, e, least))
      (λ no_better. let least = b.fails_high above in omega (arith, ints, e, no_better, least)))
      most.one;
}

-- the threshold of a reply, as it is computed
pub reply_threshold : (alpha beta : ℤ) → IsInner alpha beta → to_z w8 (of_z w8 (to_z w8 (of_z w8 (pos 0 -ℤ to_z w8 (of_z w8 alpha))) -ℤ pos 1)) ≡ neg_ℤ alpha -ℤ pos 1
reply_threshold alpha beta w = let low = w.low in let ordered = w.ordered in let high = w.high in omega (arith, ints)
