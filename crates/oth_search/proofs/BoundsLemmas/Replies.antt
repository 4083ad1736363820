-- A loop over the replies to a board, against a threshold: what it keeps, and what follows when it ends.
use Rattle.std.proofs.Common.{◌≡◌, ◌≢◌, ◌⊎◌, inl, inr, ℕ, suc, true, false, sym, ap, subst, ◌∙◌, ⊎_elim, arith}
use Rattle.std.specs.Prelude.{List, Contains, ℤ, pos, negsuc, neg_ℤ, ◌-ℤ◌, ◌≤ℤ◌, ◌<ℤ◌}
use Rattle.std.proofs.lemmas.Int.{ints}
use Rattle.std.proofs.lemmas.Bool.{false≢true}
use Rattle.oth_rules.specs.declared.scoring.Scoring.{Scoring}
use Rattle.oth_rules.specs.Square.{has, word_of}
use Rattle.oth_rules.specs.Position.{Position, pass, empty_count}
use Rattle.oth_rules.specs.Move.{is_legal, legal_squares, can_move, after}
use Rattle.oth_rules.specs.Score.{score_of}
use Rattle.oth_rules.specs.Value.{value}
use Rattle.oth_rules.specs.Laws.{IsLegal, IsScore}
use Rattle.oth_rules.proofs.SearchLaws.{value-move_bound, value-move_reached, value-pass, value-over, has-moves, can_move-moves, can_move-no_moves}
use Rattle.oth_rules.proofs.SearchLaws.{IsScore-score_of, empty_count-after, empty_count-pass, Contains-legal_squares, IsLegal-from_contains}
use Rattle.std.specs.List.Sorted.{IsPermutation}
use Rattle.std.proofs.lemmas.List.Sorted.{IsPermutation-sym, Contains-permutation}
use Rattle.oth_search.specs.Bounds.Interval.{BoundsAt}
use Rattle.oth_search.specs.Bounds.Squares.{In}
use Rattle.oth_search.proofs.BoundsLemmas.SquareSets.{Takes, FromPlace}

-- the squares left are legal, and each other move gives at most the best
pub record NoneAbove (g : Scoring) (p : Position) (left : ℕ → Type 0) (best : ℤ) : Type 0 where
  pub untried : (s : ℕ) → left s → IsLegal p s
  pub tried : (s : ℕ) → IsLegal p s → left s ⊎ (neg_ℤ (value (score_of g) (after p s)) ≤ℤ best)

-- a bound of a value, as a bound of the negated value
pub BoundsAt-negated : (v alpha beta r s : ℤ) → beta ≡ neg_ℤ alpha -ℤ pos 1 → r ≡ neg_ℤ s → BoundsAt v beta s → BoundsAt (neg_ℤ v) alpha r
BoundsAt-negated v alpha beta r s e f b = record {
  score = record { low = omega (arith, ints, b.score.high); high = omega (arith, ints, b.score.low) };
  fails_low = λ h. let k : beta <ℤ s = omega (arith, ints) in omega (arith, ints, b.fails_high k);
  fails_high = λ h. let k : s ≤ℤ beta = omega (arith, ints) in omega (arith, ints, b.fails_low k);
}

pub BoundsAt-exact : (v alpha r : ℤ) → r ≡ v → IsScore r → BoundsAt v alpha r
BoundsAt-exact v alpha r e s = record { score = s; fails_low = λ h. omega (arith, ints); fails_high = λ h. omega (arith, ints) }

-- a reply above the threshold bounds the value from below
pub BoundsAt-cut : (g : Scoring) (p : Position) (s : ℕ) (alpha r : ℤ) → IsLegal p s → BoundsAt (neg_ℤ (value (score_of g) (after p s))) alpha r → alpha <ℤ r → BoundsAt (value (score_of g) p) alpha r
BoundsAt-cut g p s alpha r legal b above =
    let move = value-move_bound (score_of g) p s legal in
    let reply = b.fails_high above in
    record { score = b.score; fails_low = λ h. absurd (omega (arith, ints)); fails_high = λ h. omega (arith, ints) }

pub NoneAbove-next : (g : Scoring) (p : Position) (left : ℕ → Type 0) (s : ℕ) (rest : ℕ → Type 0) (best next : ℤ) → NoneAbove g p left best → Takes left s rest → best ≤ℤ next
    → neg_ℤ (value (score_of g) (after p s)) ≤ℤ next → NoneAbove g p rest next
NoneAbove-next g p left s rest best next n k above reply = record {
  untried = λ t h. n.untried t (k.kept t h);
  tried = λ t legal. ⊎_elim
      (λ h. ⊎_elim (λ e. inr (subst (λ x. neg_ℤ (value (score_of g) (after p x)) ≤ℤ next) (sym e) reply)) inl (k.split t h))
      (λ old. inr (omega (arith, ints)))
      (n.tried t legal);
}

-- with no square left, the value is at most the best
pub NoneAbove-end : (g : Scoring) (p : Position) (left : ℕ → Type 0) (best : ℤ) → NoneAbove g p left best → ((s : ℕ) → left s → ⊥) → can_move p ≡ true → value (score_of g) p ≤ℤ best
NoneAbove-end g p left best n none some =
    let reached = value-move_reached (score_of g) p some in
    ⊎_elim (λ h. absurd (none reached.0 h)) (λ bound. rw (reached.2) bound) (n.tried reached.0 reached.1)

-- the squares of the word of the moves are legal
pub legal-moves : (p : Position) (moves : ℕ) → moves ≡ word_of (is_legal p) → (s : ℕ) → In moves s → IsLegal p s
legal-moves p moves e s h = record { on_board = h.on_board; legal = sym (has-moves p s h.on_board) ∙ ap (λ w. has w s) (sym e) ∙ h.member }

-- at the start every legal square is left
pub NoneAbove-moves : (g : Scoring) (p : Position) (moves : ℕ) (best : ℤ) → moves ≡ word_of (is_legal p) → NoneAbove g p (In moves) best
NoneAbove-moves g p moves best e = record {
  untried = legal-moves p moves e;
  tried = λ s h. inl (record { on_board = h.on_board; member = ap (λ w. has w s) e ∙ has-moves p s h.on_board ∙ h.legal });
}

-- what the word of the moves tells
pub can_move-from_moves : (p : Position) (moves : ℕ) → moves ≡ word_of (is_legal p) → moves ≢ 0 → can_move p ≡ true
can_move-from_moves p moves e some = can_move-moves p (λ none. some (e ∙ none))

pub can_move-from_none : (p : Position) (moves : ℕ) → moves ≡ word_of (is_legal p) → moves ≡ 0 → can_move p ≡ false
can_move-from_none p moves e none = can_move-no_moves p (sym e ∙ none)

-- a forced pass: a bound of the value after it, negated
pub BoundsAt-pass : (g : Scoring) (p q : Position) (alpha beta r s : ℤ) → q ≡ pass p → can_move p ≡ false → can_move q ≡ true → beta ≡ neg_ℤ alpha -ℤ pos 1 → r ≡ neg_ℤ s
    → BoundsAt (value (score_of g) q) beta s → BoundsAt (value (score_of g) p) alpha r
BoundsAt-pass g p q alpha beta r s is none some e f b =
    let turn = value-pass (score_of g) p none (rw is at some) in
    let bound = BoundsAt-negated (value (score_of g) q) alpha beta r s e f b in
    rw (turn, ← is) bound

-- the end of the game
pub BoundsAt-over : (g : Scoring) (p q : Position) (alpha r : ℤ) → q ≡ pass p → can_move p ≡ false → can_move q ≡ false → r ≡ score_of g p → BoundsAt (value (score_of g) p) alpha r
BoundsAt-over g p q alpha r is none over e =
    let v = value-over (score_of g) p none (rw is at over) in
    BoundsAt-exact (value (score_of g) p) alpha r (e ∙ sym v) (subst IsScore (sym e) (IsScore-score_of g p))

-- a move fills a square, and a pass fills none: for the measures
pub fewer_after : (p q : Position) (s : ℕ) → q ≡ after p s → IsLegal p s → suc (empty_count q) ≡ empty_count p
fewer_after p q s e legal = ap (λ x. suc (empty_count x)) e ∙ sym (empty_count-after p s legal)

pub same_after_pass : (p q : Position) → q ≡ pass p → empty_count q ≡ empty_count p
same_after_pass p q e = ap empty_count e ∙ empty_count-pass p

-- a bound of the value after a move, as a bound of what the move gives
pub BoundsAt-reply : (g : Scoring) (p q : Position) (s : ℕ) (alpha beta r t : ℤ) → q ≡ after p s → beta ≡ neg_ℤ alpha -ℤ pos 1 → r ≡ neg_ℤ t → BoundsAt (value (score_of g) q) beta t
    → BoundsAt (neg_ℤ (value (score_of g) (after p s))) alpha r
BoundsAt-reply g p q s alpha beta r t is e f b =
    let bound = BoundsAt-negated (value (score_of g) q) alpha beta r t e f b in
    rw (← is) bound

-- what a loop over the replies keeps: the best so far is a score, not above the threshold
pub record ReplyLoop (g : Scoring) (p : Position) (alpha : ℤ) (left : ℕ → Type 0) (best : ℤ) : Type 0 where
  pub score : IsScore best
  pub low : best ≤ℤ alpha
  pub replies : NoneAbove g p left best

pub ReplyLoop-start : (g : Scoring) (p : Position) (alpha : ℤ) (left : ℕ → Type 0) (best : ℤ) → best ≡ negsuc 63 → negsuc 63 ≤ℤ alpha → NoneAbove g p left best → ReplyLoop g p alpha left best
ReplyLoop-start g p alpha left best e low n = record {
  score = record { low = omega (arith, ints); high = omega (arith, ints) };
  low = omega (arith, ints);
  replies = n;
}

-- a reply that is no better leaves the best
pub ReplyLoop-keeps : (g : Scoring) (p : Position) (alpha : ℤ) (left : ℕ → Type 0) (s : ℕ) (rest : ℕ → Type 0) (best r : ℤ) → ReplyLoop g p alpha left best → Takes left s rest
    → BoundsAt (neg_ℤ (value (score_of g) (after p s))) alpha r → r ≤ℤ best → ReplyLoop g p alpha rest best
ReplyLoop-keeps g p alpha left s rest best r l k b no_better =
    let low = l.low in
    let within : r ≤ℤ alpha = omega (arith, ints) in
    let gives = b.fails_low within in
    record { score = l.score; low = l.low; replies = NoneAbove-next g p left s rest best best l.replies k (omega (arith, ints)) (omega (arith, ints)) }

-- a better reply that is not above the threshold becomes the best
pub ReplyLoop-takes : (g : Scoring) (p : Position) (alpha : ℤ) (left : ℕ → Type 0) (s : ℕ) (rest : ℕ → Type 0) (best r : ℤ) → ReplyLoop g p alpha left best → Takes left s rest
    → BoundsAt (neg_ℤ (value (score_of g) (after p s))) alpha r → r ≤ℤ alpha → best <ℤ r → ReplyLoop g p alpha rest r
ReplyLoop-takes g p alpha left s rest best r l k b within better =
    let gives = b.fails_low within in
    record { score = b.score; low = within; replies = NoneAbove-next g p left s rest best r l.replies k (omega (arith, ints)) gives }

-- .. or the greater of the best and such a reply does
pub ReplyLoop-greater : (g : Scoring) (p : Position) (alpha : ℤ) (left : ℕ → Type 0) (s : ℕ) (rest : ℕ → Type 0) (best r z next : ℤ) → ReplyLoop g p alpha left best → Takes left s rest
    → BoundsAt (neg_ℤ (value (score_of g) (after p s))) alpha r → r ≤ℤ alpha → best ≤ℤ z → r ≤ℤ z → (z ≡ best) ⊎ (z ≡ r) → next ≡ z → ReplyLoop g p alpha rest next
ReplyLoop-greater g p alpha left s rest best r z next l k b within above better one is =
    let gives = b.fails_low within in
    record {
      score = subst IsScore (sym is) (⊎_elim (λ e. subst IsScore (sym e) l.score) (λ e. subst IsScore (sym e) b.score) one);
      low = ⊎_elim (λ e. omega (arith, ints, e, is, l.low)) (λ e. omega (arith, ints, e, is, within)) one;
      replies = NoneAbove-next g p left s rest best next l.replies k (omega (arith, ints, is, above)) (omega (arith, ints, is, gives, better));
    }

pub ReplyLoop-end : (g : Scoring) (p : Position) (alpha beta : ℤ) (left : ℕ → Type 0) (best : ℤ) → ReplyLoop g p beta left best → beta ≡ alpha → ((s : ℕ) → left s → ⊥)
    → can_move p ≡ true → BoundsAt (value (score_of g) p) alpha best
ReplyLoop-end g p alpha beta left best l e none some =
    let most = NoneAbove-end g p left best l.replies none some in
    let low = l.low in
    record { score = l.score; fails_low = λ h. most; fails_high = λ h. absurd (omega (arith, ints)) }

-- at the start of a list of the legal squares, every legal square is left

pub FromPlace-legal : (p : Position) (squares items : List ℕ) → items ≡ squares → IsPermutation (legal_squares p) squares → (s : ℕ) → FromPlace items 0 s → IsLegal p s
FromPlace-legal p squares items e each s h =
    let found : Contains items s = (h.0, h.2, h.3) in
    IsLegal-from_contains p s (Contains-permutation squares (legal_squares p) s (IsPermutation-sym (legal_squares p) squares each) (rw e at found))

pub legal-FromPlace : (p : Position) (squares items : List ℕ) → items ≡ squares → IsPermutation (legal_squares p) squares → (s : ℕ) → IsLegal p s → FromPlace items 0 s
legal-FromPlace p squares items e each s h =
    let found = rw (← e) at (Contains-permutation (legal_squares p) squares s each (Contains-legal_squares p s h)) in
    (found.0, omega arith, found.1, found.2)

pub NoneAbove-list : (g : Scoring) (p : Position) (squares items : List ℕ) (best : ℤ) → items ≡ squares → IsPermutation (legal_squares p) squares → NoneAbove g p (FromPlace items 0) best
NoneAbove-list g p squares items best e each = record {
  untried = FromPlace-legal p squares items e each;
  tried = λ s h. inl (legal-FromPlace p squares items e each s h);
}

-- what the word of the moves tells

pub can_move-after_pass : (p q : Position) → q ≡ pass p → can_move p ≡ false → (can_move p ≡ true) ⊎ (can_move (pass p) ≡ true) → can_move q ≡ true
can_move-after_pass p q e none goes_on =
    ⊎_elim (λ some. absurd (false≢true (sym none ∙ some))) (λ some. rw e some) goes_on

pub can_move-passed : (p q : Position) (moves : ℕ) → q ≡ pass p → moves ≡ word_of (is_legal q) → moves ≢ 0 → can_move (pass p) ≡ true
can_move-passed p q moves e is some = rw e at (can_move-from_moves q moves is some)
