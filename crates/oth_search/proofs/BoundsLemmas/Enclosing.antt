-- Lemmas on bounds that enclose a value.
use Rattle.std.proofs.Common.{true, false, ◌≡◌, ℕ, refl, subst, sym, arith, ◌⊎◌, inl, inr, ⊎_elim, ◌∙◌}
use Rattle.std.specs.Prelude.{◌+ℤ◌, ℤ, pos, negsuc, neg_ℤ, ◌≤ℤ◌, ◌<ℤ◌}
use Rattle.std.proofs.lemmas.Int.{ints, by_lt_z}
use Rattle.std.proofs.lemmas.Bool.{false≢true, cases_Bool}
use Rattle.oth_rules.specs.Square.{has, word_of}
use Rattle.oth_rules.specs.declared.scoring.Scoring.{Scoring}
use Rattle.oth_rules.specs.Position.{Position, pass}
use Rattle.oth_rules.specs.Score.{score_of}
use Rattle.oth_rules.specs.Value.{value}
use Rattle.oth_rules.specs.Symmetry.{canonical, IsCanonical}
use Rattle.oth_rules.specs.Laws.{IsScore, IsLegal}
use Rattle.oth_rules.proofs.Canonical.{value-canonical, canonical-canonical}
use Rattle.oth_rules.proofs.SearchLaws.{IsScore-value, IsScore-score_of, is_over-true, value-over, value-pass, value-move_bound}
use Rattle.oth_rules.specs.Move.{is_over, is_legal, after, can_move}
use Rattle.oth_search.proofs.BoundsLemmas.SquareSets.{Takes, Takes-without, In-none}
use Rattle.oth_search.specs.Bounds.Squares.{In, Without}
use Rattle.oth_search.specs.Bounds.Replies.{IsBackedUp}
use Rattle.oth_search.proofs.BoundsLemmas.Replies.{NoneAbove, NoneAbove-moves, NoneAbove-next, NoneAbove-end}
use Rattle.oth_search.specs.Bounds.Interval.{BoundsAt, IsInterval, Encloses, Decides}

-- the canonical image has the same value
pub Encloses-canonical : (g : Scoring) (p q : Position) (lower upper : ℤ) → q ≡ canonical p → Encloses lower upper (value (score_of g) p) → Encloses lower upper (value (score_of g) q)
Encloses-canonical g p q lower upper e h = rw (e, value-canonical g p) h

pub Encloses-from_canonical : (g : Scoring) (p q : Position) (lower upper : ℤ) → q ≡ canonical p → Encloses lower upper (value (score_of g) q) → Encloses lower upper (value (score_of g) p)
Encloses-from_canonical g p q lower upper e h = rw (e, value-canonical g p) at h

pub IsCanonical-canonical : (p q : Position) → q ≡ canonical p → IsCanonical q
IsCanonical-canonical p q e = record { least = rw e (canonical-canonical p) }

pub Encloses-all : (g : Scoring) (p : Position) (lower upper : ℤ) → lower ≡ negsuc 63 → upper ≡ pos 64 → Encloses lower upper (value (score_of g) p)
Encloses-all g p lower upper e f =
    let v = IsScore-value g p in
    record { below = rw e (v.low); above = rw f (v.high) }

-- a bound that stands in an interval serves as the answer of a null-window search
pub BoundsAt-lower : (v alpha lower upper r : ℤ) → Encloses lower upper v → IsInterval lower upper → r ≡ lower → alpha <ℤ lower → BoundsAt v alpha r
BoundsAt-lower v alpha lower upper r h i e above = record {
  score = record { low = omega (arith, ints, i.low); high = omega (arith, ints, i.ordered, i.high) };
  fails_low = λ k. absurd (omega (arith, ints));
  fails_high = λ k. omega (arith, ints, h.below);
}

pub BoundsAt-upper : (v alpha lower upper r : ℤ) → Encloses lower upper v → IsInterval lower upper → r ≡ upper → upper ≤ℤ alpha → BoundsAt v alpha r
BoundsAt-upper v alpha lower upper r h i e below = record {
  score = record { low = omega (arith, ints, i.ordered, i.low); high = omega (arith, ints, i.high) };
  fails_low = λ k. omega (arith, ints, h.above);
  fails_high = λ k. absurd (omega (arith, ints));
}

-- the same bounds, as those of another name of the threshold and the bound
pub BoundsAt-same : (v w alpha beta r s : ℤ) → w ≡ v → beta ≡ alpha → s ≡ r → BoundsAt v alpha r → BoundsAt w beta s
BoundsAt-same v w alpha beta r s e f k h = rw (e, f, k) h

-- what is known of the canonical image q of p, under any name
pub Encloses-known : (g f : Scoring) (p q r : Position) (lower upper : ℤ) → q ≡ canonical p → r ≡ q → f ≡ g → Encloses lower upper (value (score_of f) r) → Encloses lower upper (value (score_of g) p)
Encloses-known g f p q r lower upper e k l h =
    Encloses-from_canonical g p q lower upper e (rw (k, l) at h)

pub value-known : (g f : Scoring) (p q r : Position) → q ≡ canonical p → r ≡ q → f ≡ g → value (score_of f) r ≡ value (score_of g) p
value-known g f p q r e k l = rw (k, l, e) (value-canonical g p)

-- a null-window search decides the window that has nothing between its ends
pub Decides-nws : (alpha at found lower upper low high : ℤ) → at ≡ alpha → (at <ℤ found → (low ≡ found) × (high ≡ upper)) → (found ≤ℤ at → (low ≡ lower) × (high ≡ found))
    → Decides low high alpha (alpha +ℤ pos 1)
Decides-nws alpha at found lower upper low high e above below =
    by_lt_z at found
    (λ h. let m = above h in inr (inl (omega (arith, ints, m.0))))
    (λ h. let m = below h in inr (inr (omega (arith, ints, m.1))))

-- the end of the game
pub IsScore-over : (g : Scoring) (p : Position) (r : ℤ) → r ≡ score_of g p → IsScore r
IsScore-over g p r e = rw e (IsScore-score_of g p)

pub Encloses-over : (g : Scoring) (p : Position) (r lower upper : ℤ) → is_over p ≡ true → r ≡ score_of g p → lower ≡ r → upper ≡ r → Encloses lower upper (value (score_of g) p)
Encloses-over g p r lower upper over e low high =
    let ends = is_over-true p over in
    let v = value-over (score_of g) p ends.0 ends.1 in
    record { below = rw (v, low, e) (omega (arith, ints)); above = rw (v, high, e) (omega (arith, ints)) }

-- what is known of a child tells that the mover can have at least the negated upper bound
pub Encloses-lift : (g : Scoring) (p q : Position) (s : ℕ) (lower upper low high : ℤ) → IsLegal p s → q ≡ after p s → Encloses lower upper (value (score_of g) q) → low ≡ neg_ℤ upper
    → high ≡ pos 64 → Encloses low high (value (score_of g) p)
Encloses-lift g p q s lower upper low high legal is h e f =
    let v = subst (λ x. Encloses lower upper (value (score_of g) x)) is h in
    record { below = omega (arith, ints, v.above, value-move_bound (score_of g) p s legal); above = omega (arith, ints, (IsScore-value g p).high) }

-- .. and where that is above the threshold it bounds the value
pub BoundsAt-child : (g : Scoring) (p q : Position) (s : ℕ) (alpha lower upper r : ℤ) → IsLegal p s → q ≡ after p s → IsInterval lower upper
    → Encloses lower upper (value (score_of g) q) → r ≡ neg_ℤ upper → alpha <ℤ r → BoundsAt (value (score_of g) p) alpha r
BoundsAt-child g p q s alpha lower upper r legal is i h e above =
    let lifted = Encloses-lift g p q s lower upper r (pos 64) legal is h e refl in
    record {
      score = record { low = omega (arith, ints, i.high); high = omega (arith, ints, i.low, i.ordered) };
      fails_low = λ k. absurd (omega (arith, ints));
      fails_high = λ k. lifted.below;
    }

-- the value of an answer
pub IsScore-answer : (g : Scoring) (p : Position) (r : ℤ) → r ≡ value (score_of g) p → IsScore r
IsScore-answer g p r e = rw e (IsScore-value g p)

-- before a forced pass the bounds have the other sign
pub Encloses-pass : (g : Scoring) (p q : Position) (lower upper low high : ℤ) → q ≡ pass p → can_move p ≡ false → can_move (pass p) ≡ true → Encloses lower upper (value (score_of g) q)
    → low ≡ neg_ℤ upper → high ≡ neg_ℤ lower → Encloses low high (value (score_of g) p)
Encloses-pass g p q lower upper low high is none some h e f =
    let v = subst (λ x. Encloses lower upper (value (score_of g) x)) is h in
    let turn = value-pass (score_of g) p none some in
    record { below = omega (arith, ints, v.above, turn); above = omega (arith, ints, v.below, turn) }

-- the greatest lower and the greatest upper bound of what the tried moves give
pub record MovesLoop (g : Scoring) (p : Position) (left : ℕ → Type 0) (lower upper : ℤ) : Type 0 where
  pub interval : IsInterval lower upper
  pub reached : lower ≤ℤ value (score_of g) p
  pub replies : NoneAbove g p left upper

pub MovesLoop-start : (g : Scoring) (p : Position) (left : ℕ → Type 0) (lower upper : ℤ) → lower ≡ negsuc 63 → upper ≡ negsuc 63 → NoneAbove g p left upper → MovesLoop g p left lower upper
MovesLoop-start g p left lower upper e f n = record {
  interval = record { low = omega (arith, ints); ordered = omega (arith, ints); high = omega (arith, ints) };
  reached = omega (arith, ints, (IsScore-value g p).low);
  replies = n;
}

-- at least both, and at most what both are at most
pub record IsGreaterOf (x y z : ℤ) : Type 0 where
  pub left : x ≤ℤ z
  pub right : y ≤ℤ z
  pub least : (w : ℤ) → x <ℤ w → y <ℤ w → z <ℤ w

pub MovesLoop-next : (g : Scoring) (p q : Position) (left : ℕ → Type 0) (s : ℕ) (rest : ℕ → Type 0) (lower upper l u a b x y lower' upper' : ℤ) → MovesLoop g p left lower upper
    → Takes left s rest → q ≡ after p s → IsInterval l u → Encloses l u (value (score_of g) q) → a ≡ neg_ℤ u → b ≡ neg_ℤ l → IsGreaterOf lower a x → IsGreaterOf upper b y → lower' ≡ x
    → upper' ≡ y → MovesLoop g p rest lower' upper'
MovesLoop-next g p q left s rest lower upper l u a b x y lower' upper' m k is i h e f low high same_low same_high =
    let v = subst (λ x. Encloses l u (value (score_of g) x)) is h in
    let bound = value-move_bound (score_of g) p s (m.replies.untried s k.member) in
    let old = m.interval in
    let below : x <ℤ (value (score_of g) p +ℤ pos 1) = low.least (value (score_of g) p +ℤ pos 1) (omega (arith, ints, m.reached)) (omega (arith, ints, v.above, bound)) in
    let ordered : x <ℤ (y +ℤ pos 1) = low.least (y +ℤ pos 1) (omega (arith, ints, old.ordered, high.left)) (omega (arith, ints, i.ordered, high.right)) in
    let most : y <ℤ pos 65 = high.least (pos 65) (omega (arith, ints, old.high)) (omega (arith, ints, i.low)) in
    record {
      interval = record { low = omega (arith, ints, old.low, low.left); ordered = omega (arith, ints); high = omega (arith, ints) };
      reached = omega (arith, ints);
      replies = NoneAbove-next g p left s rest upper upper' m.replies k (omega (arith, ints, high.left)) (omega (arith, ints, v.below, high.right));
    }

pub MovesLoop-end : (g : Scoring) (p : Position) (left : ℕ → Type 0) (lower upper : ℤ) → MovesLoop g p left lower upper → ((s : ℕ) → left s → ⊥) → can_move p ≡ true
    → Encloses lower upper (value (score_of g) p)
MovesLoop-end g p left lower upper m none some = record { below = m.reached; above = NoneAbove-end g p left upper m.replies none some }

-- .. where the squares left are a set
MovesLoop-from : (g : Scoring) (p : Position) (left : ℕ) (lower upper : ℤ) → IsBackedUp g p left lower upper → MovesLoop g p (In left) lower upper
MovesLoop-from g p left lower upper b = record {
  interval = b.interval;
  reached = b.reached;
  replies = record {
    untried = b.legal;
    tried = λ s legal. ⊎_elim (λ yes. inl (record { on_board = legal.on_board; member = yes })) (λ no. inr (b.at_most s legal no)) (cases_Bool (has left s));
  };
}

MovesLoop-to : (g : Scoring) (p : Position) (left : ℕ) (lower upper : ℤ) → MovesLoop g p (In left) lower upper → IsBackedUp g p left lower upper
MovesLoop-to g p left lower upper m = record {
  interval = m.interval;
  legal = m.replies.untried;
  reached = m.reached;
  at_most = λ s legal no. ⊎_elim (λ h. absurd (false≢true (sym no ∙ h.member))) (λ bound. bound) (m.replies.tried s legal);
}

pub IsBackedUp-start : (g : Scoring) (p : Position) (moves : ℕ) → moves ≡ word_of (is_legal p) → IsBackedUp g p moves (negsuc 63) (negsuc 63)
IsBackedUp-start g p moves e =
    MovesLoop-to g p moves _ _ (MovesLoop-start g p (In moves) _ _ refl refl (NoneAbove-moves g p moves _ e))

pub IsBackedUp-next : (g : Scoring) (p q : Position) (left s rest : ℕ) (lower upper low high l u a b x y lower' upper' : ℤ) → IsBackedUp g p left lower upper → In left s → Without left s rest
    → q ≡ after p s → IsInterval l u → Encloses l u (value (score_of g) q) → low ≡ lower → high ≡ upper → a ≡ neg_ℤ u → b ≡ neg_ℤ l → IsGreaterOf low a x → IsGreaterOf high b y
    → lower' ≡ x → upper' ≡ y → IsBackedUp g p rest lower' upper'
IsBackedUp-next g p q left s rest lower upper low high l u a b x y lower' upper' m h w is i v el eh e f more most same_low same_high =
    MovesLoop-to g p rest lower' upper'
    (MovesLoop-next g p q (In left) s (In rest) lower upper l u a b x y lower' upper' (MovesLoop-from g p left lower upper m) (Takes-without left s rest h w) is i v e f
    (subst (λ z. IsGreaterOf z a x) el more) (subst (λ z. IsGreaterOf z b y) eh most) same_low same_high)

-- once no move is left
pub IsBackedUp-end : (g : Scoring) (p : Position) (left : ℕ) (lower upper low high : ℤ) → IsBackedUp g p left lower upper → can_move p ≡ true → left ≡ 0 → low ≡ lower → high ≡ upper
    → Encloses low high (value (score_of g) p)
IsBackedUp-end g p left lower upper low high m some none e f =
    let bounds = MovesLoop-end g p (In left) lower upper (MovesLoop-from g p left lower upper m) (In-none left none) some in
    record { below = omega (arith, ints, bounds.below); above = omega (arith, ints, bounds.above) }

-- before that
pub IsBackedUp-so_far : (g : Scoring) (p : Position) (left : ℕ) (lower upper low high : ℤ) → IsBackedUp g p left lower upper → low ≡ lower → high ≡ pos 64
    → Encloses low high (value (score_of g) p)
IsBackedUp-so_far g p left lower upper low high m e f = record { below = omega (arith, ints, m.reached); above = omega (arith, ints, (IsScore-value g p).high) }

pub same_scoring : (g f : Scoring) (p : Position) (lower upper : ℤ) → f ≡ g → Encloses lower upper (value (score_of f) p) → Encloses lower upper (value (score_of g) p)
same_scoring g f p lower upper e h = rw e at h

-- ---- what two tell of one board

-- the same board under the same scoring
-- after a forced pass the bounds have the other sign
pub Encloses-passed : (g : Scoring) (p q : Position) (lower upper low high : ℤ) → q ≡ pass p → can_move p ≡ false → can_move (pass p) ≡ true
    → Encloses lower upper (value (score_of g) p) → low ≡ neg_ℤ upper → high ≡ neg_ℤ lower → Encloses low high (value (score_of g) q)
Encloses-passed g p q lower upper low high is none some h e f =
    let turn = value-pass (score_of g) p none some in
    subst (λ x. Encloses low high (value (score_of g) x)) (sym is) (record { below = omega (arith, ints, h.above, turn); above = omega (arith, ints, h.below, turn) })

pub Encloses-same : (g f : Scoring) (p q : Position) (lower upper : ℤ) → q ≡ p → f ≡ g → Encloses lower upper (value (score_of f) q) → Encloses lower upper (value (score_of g) p)
Encloses-same g f p q lower upper e k h = rw (e, k) at h

pub record AreJoined (v lower upper : ℤ) : Type 0 where
  pub interval : IsInterval lower upper
  pub encloses : Encloses lower upper v

pub joined-both : (v a b c d a' b' c' d' x y lower upper : ℤ) → IsInterval a b → Encloses a b v → Encloses c d v → a' ≡ a → b' ≡ b → c' ≡ c → d' ≡ d → (x ≡ a') ⊎ (x ≡ c') → a' ≤ℤ x
    → (y ≡ b') ⊎ (y ≡ d') → y ≤ℤ b' → lower ≡ x → upper ≡ y → AreJoined v lower upper
joined-both v a b c d a' b' c' d' x y lower upper i one two ea eb ec ed l al u ub el eu =
    let below : lower ≤ℤ v = elim l [ inl e ↦ omega (arith, ints, e, ea, el, one.below) | inr e ↦ omega (arith, ints, e, ec, el, two.below) ] in
    let above : v ≤ℤ upper = elim u [ inl e ↦ omega (arith, ints, e, eb, eu, one.above) | inr e ↦ omega (arith, ints, e, ed, eu, two.above) ] in
    record {
      interval = record { low = omega (arith, ints, i.low, al, ea, el); ordered = omega (arith, ints, below, above); high = omega (arith, ints, i.high, ub, eb, eu) };
      encloses = record { below = below; above = above };
    }
