use Rattle.std.proofs.Common.{◌≡◌, ◌∷◌, ◌++◌, [], ◌∙◌, ap, ap₂, decimal}
use Rattle.oth_text.specs.Analysis.{turn_line}
use Rattle.oth_text.specs.Report.{report_line_of, score_text}
use Rattle.oth_text.proofs.AnalysisLemmas.{joined, kept-score}
use Rattle.oth_text.proofs.OneLineLemmas.{turn_line-one}
use Rattle.oth_text.proofs.analysis.turn_line.Goals as goal

is_line : (c : goal.After-push_report_line) → c.push_report_line.new.line.items ≡ turn_line c.args.number c.args.judged.now.answer.scoring c.args.judged.now.turn
unfolding turn_line
is_line c =
    let j = c.args.judged.now in
    let digits = c.as_bytes.ensures.value ∙ c.format.ensures.text in
    let disc = c.as_bytes-2.ensures.value ∙ c.format-2.ensures.text ∙ ap decimal c.disc_number.ensures in
    let score = ap score_text (kept-score j.answer.scoring j.turn j.score j.is_score) in
    let best = ap (report_line_of j.answer.scoring) j.of_board in
    joined _ _ _ _ _ _ _ _ _ _ _ _ _ _ _ _ (c.push_text.ensures ∙ ap₂ ◌++◌ c.new-line.ensures digits) c.push.ensures.items (c.push_text-2.ensures ∙ ap (λ t. c.push.new.self.items ++ t) disc)
    c.push-2.ensures.items (c.push-3.ensures.items ∙ ap (λ b. c.push-2.new.self.items ++ b ∷ []) c.side_byte.ensures) c.push_played.ensures.text c.push-4.ensures.items
    (c.push_signed.ensures.text ∙ ap (λ t. c.push-4.new.self.items ++ t) score) c.push-5.ensures.items (c.push_report_line.ensures ∙ ap (λ t. c.push-5.new.self.items ++ t) best)

pub returns-clause-text : goal.returns-clause-text
returns-clause-text c = is_line c

pub returns-clause-one_line : goal.returns-clause-one_line
returns-clause-one_line c = turn_line-one _ c.args.number c.args.judged.now.answer.scoring c.args.judged.now.turn c.ranges.number.fits (is_line c)
