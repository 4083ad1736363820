use Rattle.std.proofs.Common.{◌≡◌, ◌∙◌, ap, length, not, sym}
use Rattle.std.proofs.lemmas.Bool.{eqb-true}
use Rattle.oth_text.proofs.AnalysisLemmas.{begins-by, begins-not, front-begins}
use Rattle.oth_text.proofs.analysis_reader.AnalysisReader.begins_board.Goals as goal

pub returns-then-not-is_empty : goal.returns-then-not-is_empty
returns-then-not-is_empty c = λ line kept.
    c.is_cell.ensures ∙ begins-by _ ∙ front-begins _ line (c.as_slice-front.ensures.value ∙ kept.front)

pub returns-else-not-is_empty : goal.returns-else-not-is_empty
returns-else-not-is_empty c = λ line kept.
    let none : length c.as_slice-front.result.now ≡ 0 = eqb-true _ _ (sym c.is_empty.ensures ∙ c.if-not-is_empty.false) in
    ap not c.if-not-is_empty.false ∙ begins-not _ none ∙ front-begins _ line (c.as_slice-front.ensures.value ∙ kept.front)
