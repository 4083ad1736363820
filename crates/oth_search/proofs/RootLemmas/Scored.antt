-- The list of a board's moves with their scores, as it grows.
use Rattle.std.proofs.Common.{◌≡◌, ℕ, List, [], ◌∷◌, ◌++◌, All, sym, subst, arith}
use Rattle.std.specs.Prelude.{ℤ, neg_ℤ}
use Rattle.std.proofs.lemmas.Int.{ints}
use Rattle.std.proofs.lemmas.List.Elements.{All-nil, All-push}
use Rattle.oth_rules.specs.declared.scoring.Scoring.{Scoring}
use Rattle.oth_rules.specs.Position.{Position}
use Rattle.oth_rules.specs.Move.{after}
use Rattle.oth_rules.specs.Score.{score_of}
use Rattle.oth_rules.specs.Value.{value}
use Rattle.oth_search.specs.declared.root.scores.ScoredMove.{ScoredMove}
use Rattle.oth_search.specs.Bounds.Interval.{Encloses}
use Rattle.oth_search.specs.Root.Scores.{IsScored}

-- no move is listed yet
pub scored-start : (p : Position) (g : Scoring) (ms : List ScoredMove) → ms ≡ [] → All (IsScored p g) ms
scored-start p g ms none = subst (All (IsScored p g)) (sym none) (All-nil (IsScored p g))

-- one more move is listed
pub scored-more : (p : Position) (g : Scoring) (ms all : List ScoredMove) (m : ScoredMove) → All (IsScored p g) ms → all ≡ ms ++ m ∷ [] → IsScored p g m → All (IsScored p g) all
scored-more p g ms all m each e one = subst (All (IsScored p g)) (sym e) (All-push (IsScored p g) ms m each one)

-- exact bounds of the board after a move give its score
pub scored-exactly : (p q : Position) (g h : Scoring) (s : ℕ) (lower upper score : ℤ) → q ≡ after p s → h ≡ g → Encloses lower upper (value (score_of h) q) → lower ≡ upper
    → score ≡ neg_ℤ upper → score ≡ neg_ℤ (value (score_of g) (after p s))
scored-exactly p q g h s lower upper score e f bounds exact is =
    let P : Position × Scoring → Type 0 = λ x. Encloses lower upper (value (score_of x.1) x.0) in
    let b = subst P (λ i. (e i, f i)) bounds in
    omega (arith, ints, b.below, b.above, exact, is)
