-- The lines of a board, from its words.
use Rattle.std.proofs.Common.{◌≡◌, ℕ, ℤ, List, [], ◌∷◌, ◌++◌, ap, ◌∙◌, append_assoc, to_z, of_z, w8}
use Rattle.oth_rules.specs.Square.{word_of}
use Rattle.oth_rules.specs.Position.{Position}
use Rattle.oth_rules.specs.Move.{is_legal, legal_squares}
use Rattle.oth_rules.specs.Laws.{IsScore}
use Rattle.oth_rules.specs.Score.{score_of}
use Rattle.oth_rules.specs.Value.{value, is_best}
use Rattle.oth_rules.specs.declared.scoring.Scoring.{Scoring}
use Rattle.oth_rules.proofs.Scores.{kept}
use Rattle.oth_rules.proofs.SearchLaws.{IsScore-value}
use Rattle.oth_search.specs.Bounds.Answer.{kind_of}
use Rattle.oth_search.specs.declared.bounds.kind.Kind.{Kind}
use Rattle.oth_text.specs.Report.{best_squares, moves_line_of, moves_or_word, report_line_of, score_text, squares_of}
use Rattle.oth_text.proofs.SquareLemmas.{squares_of-word_of}

pub moves_line_is : (b : Position) (before line : List ℕ) (k : Kind) (w : ℕ) → before ≡ [] → k ≡ kind_of b → w ≡ word_of (is_legal b) → line ≡ before ++ moves_or_word k (squares_of w)
    → line ≡ moves_line_of b
unfolding moves_line_of legal_squares
moves_line_is b before line k w empty fits moves is =
    is ∙ ap (λ xs. xs ++ moves_or_word k (squares_of w)) empty ∙ ap (λ k. moves_or_word k (squares_of w)) fits
    ∙ ap (moves_or_word (kind_of b)) (ap squares_of moves ∙ squares_of-word_of (is_legal b))

pub report_line_is : (g : Scoring) (b : Position) (scored spaced line : List ℕ) (score : ℤ) (best : ℕ) (k : Kind) → score ≡ value (score_of g) b
    → best ≡ word_of (is_best (score_of g) b) → k ≡ kind_of b
    → scored ≡ score_text (to_z w8 (of_z w8 score)) → spaced ≡ scored ++ 32 ∷ [] → line ≡ spaced ++ moves_or_word k (squares_of best) → line ≡ report_line_of g b
unfolding report_line_of best_squares
report_line_is g b scored spaced line score best k is_value are_best fits is_scored is_spaced is =
    let number : to_z w8 (of_z w8 score) ≡ value (score_of g) b = kept score (let s : IsScore score = rw is_value (IsScore-value g b) in s) ∙ is_value in
    is ∙ ap (λ xs. xs ++ moves_or_word k (squares_of best)) (is_spaced ∙ ap (λ xs. xs ++ 32 ∷ []) (is_scored ∙ ap score_text number))
    ∙ append_assoc (score_text (value (score_of g) b)) (32 ∷ []) (moves_or_word k (squares_of best))
    ∙ ap (λ k. score_text (value (score_of g) b) ++ 32 ∷ moves_or_word k (squares_of best)) fits
    ∙ ap (λ xs. score_text (value (score_of g) b) ++ 32 ∷ moves_or_word (kind_of b) xs) (ap squares_of are_best ∙ squares_of-word_of (is_best (score_of g) b))
