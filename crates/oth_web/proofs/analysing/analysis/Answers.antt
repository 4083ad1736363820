use Rattle.std.proofs.Common.{◌++◌, [], ◌∙◌, ap}
use Rattle.oth_text.specs.Analysis.{fault_part}
use Rattle.oth_web.proofs.Turns.{whole}
use Rattle.oth_web.proofs.analysing.analysis.Goals as goal

pub returns : goal.returns
returns c =
    let kept = c.push.ensures [] c.new-reader.ensures in
    let turns = c.as_slice.ensures.value ∙ c.turns-turns.ensures.turns c.args.line.now kept in
    let fault = c.fault.ensures c.args.line.now kept in
    let lost = c.push_turns-lost.ensures in
    c.push-2.ensures.told
    ∙ ap (λ l. l ++ c.as_slice-2.result.now) (c.push_fault.ensures.told ∙ ap (λ l. l ++ fault_part c.args.number c.fault.result) lost.told)
    ∙ whole c.args.number c.args.scoring c.args.last c.args.line.now c.as_slice.result.now c.fault.result c.as_slice-2.result.now _ _ turns fault
    lost.black lost.white (c.as_slice-2.ensures.value ∙ c.lost_line.ensures.text)
