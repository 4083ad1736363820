use Rattle.std.proofs.Common.{◌≡◌, ◌∙◌, ◌++◌, ◌∷◌, [], ap, ap₂, decimal, subst}
use Rattle.oth_text.specs.FaultLine.{any_fault_line_of}
use Rattle.oth_text.specs.OneLine.{IsOneLine}
use Rattle.oth_text.proofs.AnalysisLemmas.{behind}
use Rattle.oth_text.proofs.OneLineLemmas.{game_line-one}
use Rattle.oth_text.proofs.analysis.game_line.Goals as goal

is_line : (c : goal.After-push_text-2) → c.push_text-2.new.line.items ≡ decimal c.args.number ++ 32 ∷ any_fault_line_of c.args.fault.now
is_line c =
    let number = c.push_text.ensures ∙ ap₂ ◌++◌ c.new-line.ensures (c.as_bytes.ensures.value ∙ c.format.ensures.text) in
    let fault = c.as_slice.ensures.value ∙ c.any_fault_line.ensures.text in
    c.push_text-2.ensures ∙ ap (λ t. c.push.new.self.items ++ t) fault ∙ behind _ _ (32 ∷ []) _ c.push.ensures.items ∙ ap (λ t. t ++ 32 ∷ any_fault_line_of c.args.fault.now) number

pub returns-clause-text : goal.returns-clause-text
returns-clause-text c = is_line c

pub returns-clause-one_line : goal.returns-clause-one_line
returns-clause-one_line c = game_line-one _ c.args.number (any_fault_line_of c.args.fault.now) c.ranges.number.fits
    (subst IsOneLine c.any_fault_line.ensures.text c.any_fault_line.ensures.one_line) (is_line c)
