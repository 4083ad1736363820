use Rattle.std.proofs.Common.{◌∷◌, [], ◌++◌, ◌∙◌, ap, append_assoc, refl}
use Rattle.oth_text.specs.Report.{moves_or_word, squares_of}
use Rattle.oth_text.proofs.ReportLemmas.{report_line_is}
use Rattle.oth_text.proofs.report.push_report_line.Goals as goal

pub returns : goal.returns
returns g c =
    let a = c.args.answer.now in
    let is = report_line_is a.scoring a.board _ _ _ a.score a.best a.kind a.is_value a.are_best a.fits refl refl refl in
    c.push_moves.ensures ∙ ap (λ xs. xs ++ moves_or_word a.kind (squares_of a.best)) (c.push.ensures.items ∙ ap (λ xs. xs ++ 32 ∷ []) c.push_signed.ensures.text)
    ∙ ap (λ xs. xs ++ moves_or_word a.kind (squares_of a.best)) (append_assoc c.args.line.now.items _ (32 ∷ []))
    ∙ append_assoc c.args.line.now.items _ _ ∙ ap (λ xs. c.args.line.now.items ++ xs) is
