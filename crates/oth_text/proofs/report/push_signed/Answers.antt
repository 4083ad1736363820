use Rattle.std.proofs.Common.{◌∷◌, [], ◌++◌, ◌∙◌, ap, ap₂, append_assoc, decimal, unsigned_abs, w8}
use Rattle.std.proofs.lemmas.Int.{to_z-of_z}
use Rattle.oth_text.specs.Report.{sign_byte}
use Rattle.oth_text.proofs.report.push_signed.Goals as goal

pub returns-clause-text : goal.returns-clause-text
returns-clause-text g c =
    let is = to_z-of_z w8 c.args.score c.ranges.score in
    let sign = c.push.ensures.items ∙ ap (λ b. c.args.line.now.items ++ b ∷ []) (c.sign_byte.ensures ∙ ap sign_byte is) in
    let digits = c.as_bytes.ensures.value ∙ c.format.ensures.text ∙ ap decimal (c.unsigned_abs.ensures.value ∙ ap unsigned_abs is) in
    c.push_text.ensures ∙ ap₂ ◌++◌ sign digits ∙ append_assoc c.args.line.now.items (sign_byte c.args.score ∷ []) _
