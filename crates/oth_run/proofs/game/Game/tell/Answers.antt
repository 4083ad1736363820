use Rattle.std.proofs.Common.{◌∙◌, refl}
use Rattle.std.proofs.lemmas.Result.{on_err_weaker, on_ok_weaker}
use Rattle.oth_run.proofs.GameLemmas.{joined-parts, stopped-first, stopped-second, whole}
use Rattle.oth_run.proofs.GatherLemmas.{on_err_always}
use Rattle.oth_run.proofs.game.Game.tell.Goals as goal

pub returns-in_err-lost-clause-err : goal.returns-in_err-lost-clause-err
returns-in_err-lost-clause-err g c = on_err_always c.from_residual.result (λ line kept same before done gathered.
    let are = c.as_slice-turns.ensures.value ∙ c.turns-turns.ensures.turns line kept in
    let all = whole c.args.self.now.number c.args.solver.now.settings.scoring c.args.self.now.last line _ _ _ _ _ are same refl refl refl in
    stopped-first before _ done _ _ _ _ all (c.in_err-lost.ensures.err before done gathered))

pub returns-in_err-tell_fault-clause-err : goal.returns-in_err-tell_fault-clause-err
returns-in_err-tell_fault-clause-err g c = on_err_always c.from_residual-in_err-tell_fault.result (λ line kept same before done gathered.
    let are = c.as_slice-turns.ensures.value ∙ c.turns-turns.ensures.turns line kept in
    let all = whole c.args.self.now.number c.args.solver.now.settings.scoring c.args.self.now.last line _ _ _ _ _ are same refl refl refl in
    stopped-second before _ done _ _ _ _ all (c.in_err-tell_fault.ensures.err before _ (c.in_ok-lost.ensures.ok before done gathered)))

pub returns-clause-ok : goal.returns-clause-ok
returns-clause-ok g c = on_ok_weaker c.push_text.result (λ gathers. λ line kept same before done gathered.
    let are = c.as_slice-turns.ensures.value ∙ c.turns-turns.ensures.turns line kept in
    let lost = c.in_ok-lost.ensures.lost in
    let all =
    whole c.args.self.now.number c.args.solver.now.settings.scoring c.args.self.now.last line _ _ _ _ _ are same lost.0 lost.1 (c.as_slice.ensures.value ∙ c.lost_line.ensures.text) in
    joined-parts before _ _ done _ _ _ _ all (gathers before _ (c.in_ok-tell_fault.ensures.ok before _ (c.in_ok-lost.ensures.ok before done gathered)))) c.push_text.ensures.ok

pub returns-clause-err : goal.returns-clause-err
returns-clause-err g c = on_err_weaker c.push_text.result (λ stops. λ line kept same before done gathered.
    let are = c.as_slice-turns.ensures.value ∙ c.turns-turns.ensures.turns line kept in
    let all = whole c.args.self.now.number c.args.solver.now.settings.scoring c.args.self.now.last line _ _ _ _ _ are same refl refl refl in
    stopped-second before _ done _ _ _ _ all (stops before _ (c.in_ok-tell_fault.ensures.ok before _ (c.in_ok-lost.ensures.ok before done gathered)))) c.push_text.ensures.err
