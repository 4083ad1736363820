-- An answer is true by its type, so it is that of full minimax.
use Rattle.std.proofs.Common.{◌≡◌, subst}
use Rattle.oth_rules.specs.declared.scoring.Scoring.{Scoring}
use Rattle.oth_rules.specs.Square.{word_of}
use Rattle.oth_rules.specs.Position.{Position}
use Rattle.oth_rules.specs.Score.{score_of}
use Rattle.oth_rules.specs.Value.{value, is_best}
use Rattle.oth_search.specs.declared.bounds.answer.Answer.{Answer}
use Rattle.oth_search.specs.Bounds.Answer.{kind_of}
use Rattle.oth_search.specs.Bounds.Full.{IsFullMinimax}

pub full_minimax : (a : Answer) (p : Position) (g : Scoring) → a.board ≡ p → a.scoring ≡ g → IsFullMinimax p g a
full_minimax a p g e f = record {
  board = e;
  scoring = f;
  score = let P : Position × Scoring → Type 0 = λ q. a.score ≡ value (score_of q.1) q.0 in subst P (λ i. (e i, f i)) a.is_value;
  best = let P : Position × Scoring → Type 0 = λ q. a.best ≡ word_of (is_best (score_of q.1) q.0) in subst P (λ i. (e i, f i)) a.are_best;
  kind = let P : Position → Type 0 = λ q. a.kind ≡ kind_of q in subst P e a.fits;
}
