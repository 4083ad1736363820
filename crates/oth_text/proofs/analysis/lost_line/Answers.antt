use Rattle.std.proofs.Common.{◌∙◌, ◌++◌, ap, ap₂, arith}
use Rattle.oth_text.proofs.AnalysisLemmas.{sums-joined}
use Rattle.oth_text.proofs.OneLineLemmas.{lost_text-one}
use Rattle.oth_text.proofs.analysis.lost_line.Goals as goal

pub returns-clause-one_line : goal.returns-clause-one_line
returns-clause-one_line c = lost_text-one _ c.args.number c.args.lost.now.black c.args.lost.now.white c.ranges.number.fits (omega arith) (omega arith) (sums-joined _ _ _ _ _ _ _ _ _ _
    (c.push_text.ensures ∙ ap₂ ◌++◌ c.new-line.ensures (c.as_bytes.ensures.value ∙ c.format.ensures.text)) c.push_text-2.ensures
    (c.push_text-3.ensures ∙ ap (λ t. c.push_text-2.new.line.items ++ t) (c.as_bytes-2.ensures.value ∙ c.format-2.ensures.text)) c.push_text-4.ensures
    (c.push_text-5.ensures ∙ ap (λ t. c.push_text-4.new.line.items ++ t) (c.as_bytes-3.ensures.value ∙ c.format-3.ensures.text)))
