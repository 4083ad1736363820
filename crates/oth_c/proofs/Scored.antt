-- What stands at a square, by the list of a board's moves with their scores.
use Rattle.std.proofs.Common.{◌≡◌, ◌≢◌, ◌<◌, ℕ, Bool, true, false, cond, List, map, All, Contains, refl, sym, subst}
use Rattle.std.specs.Prelude.{neg_ℤ}
use Rattle.std.proofs.lemmas.List.Elements.{All-map, All-contains}
use Rattle.oth_rules.specs.declared.scoring.Scoring.{Scoring}
use Rattle.oth_rules.specs.Position.{Position}
use Rattle.oth_rules.specs.Move.{is_legal, after, legal_squares}
use Rattle.oth_rules.specs.Score.{score_of}
use Rattle.oth_rules.specs.Value.{value}
use Rattle.oth_rules.proofs.SearchLaws.{Contains-legal_squares}
use Rattle.oth_search.specs.declared.root.scores.ScoredMove.{ScoredMove}
use Rattle.oth_search.specs.Root.Scores.{AreScores, place_of}
use Rattle.oth_c.specs.Scores.{no_score, score_at}

-- a square to which no move is listed is not legal
pub unlisted : (p : Position) (g : Scoring) (ms : List ScoredMove) (s : ℕ) → AreScores p g ms → s < 64 → All (λ m. m.square ≢ s) ms → no_score ≡ score_at p g s
unlisted p g ms s h low others =
    stands (is_legal p s)
    (λ legal.
    All-contains (λ x. x ≢ s) (map place_of ms) s (All-map (λ x. x ≢ s) place_of ms others)
    (subst (λ xs. Contains xs s) (sym h.squares) (Contains-legal_squares p s (record { on_board = low; legal = legal })))
    refl)
  where
    stands : (b : Bool) → (b ≡ true → ⊥) → no_score ≡ cond b (neg_ℤ (value (score_of g) (after p s))) no_score
    stands true none = absurd (none refl)
    stands false none = refl
