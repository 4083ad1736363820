use Rattle.std.proofs.Common.{◌∙◌, ◌++◌, ap, filter, sym, append-nil}
use Rattle.oth_rules.specs.Move.{can_move}
use Rattle.oth_text.specs.Analysis.{is_told}
use Rattle.oth_text.proofs.AnalysisLemmas.{no-pass-moves, no-pass-over, one-pass}
use Rattle.oth_text.proofs.analysis_reader.push_pass.Goals as goal

pub returns-then-can_move-clause-told : goal.returns-then-can_move-clause-told
returns-then-can_move-clause-told c =
    sym (ap (λ ts. c.args.told.now.items ++ filter (is_told c.args.last) ts) (no-pass-moves c.args.position.now (sym c.can_move.ensures ∙ c.if-can_move.true)) ∙ append-nil c.args.told.now.items)

pub returns-then-can_move-2-clause-told : goal.returns-then-can_move-2-clause-told
returns-then-can_move-2-clause-told c =
    let other = ap can_move (sym c.pass-after.ensures) ∙ sym c.can_move-2.ensures ∙ c.if-can_move-2.true in
    let turn = one-pass c.args.position.now (sym c.can_move.ensures ∙ c.if-can_move.false) other in
    rw (turn, sym c.pass-after.ensures) c.push_told.ensures.told

pub returns-else-can_move-2-clause-told : goal.returns-else-can_move-2-clause-told
returns-else-can_move-2-clause-told c =
    let other = ap can_move (sym c.pass-after.ensures) ∙ sym c.can_move-2.ensures ∙ c.if-can_move-2.false in
    sym (ap (λ ts. c.args.told.now.items ++ filter (is_told c.args.last) ts) (no-pass-over c.args.position.now (sym c.can_move.ensures ∙ c.if-can_move.false) other) ∙ append-nil c.args.told.now.items)
