use Rattle.std.proofs.Common.{[], ◌++◌, ◌∙◌, ap, refl, subst, sym, append_assoc, append-nil}
use Rattle.oth_run.proofs.CutLemmas.{behind_line, part_of_line, stops_within, up_to_line, up_to_part}
use Rattle.oth_run.proofs.GatherLemmas.{on_err_always}
use Rattle.oth_run.specs.Halfway.{IsAt, IsBehind}
use Rattle.oth_run.specs.Reply.{reply}
use Rattle.oth_run.proofs.engine.Engine.take_bytes.Goals as goal

pub returns-in_err-end_line-clause-err : goal.returns-in_err-end_line-clause-err
returns-in_err-end_line-clause-err g c = on_err_always c.from_residual.result (λ before input start.
    let settings = c.args.solver.now.settings in
    let done = c.loop-line.invariant.done in
    let so_far = done.2 before input start in
    let held = c.push.ensures settings.command _ _ so_far.lines.held in
    let same = done.1 ∙ ap (λ l. done.0 ++ l) c.in-Some.ensures.joined ∙ sym (append_assoc done.0 _ _) in
    stops_within (reply settings) before _ input _ done.0 _ _ same
    (part_of_line (reply settings) before (input ++ done.0) _ c.in-Some.ensures.line _ (c.in_err-end_line.ensures.err before _ _ _ held so_far.gathered)))

pub loop-line-init : goal.loop-line-init
loop-line-init g c = record { done = ([], refl, λ before input start. rw (append-nil input) start); works = refl }

pub loop-line-preserved : goal.loop-line-preserved
loop-line-preserved g c =
    let settings = c.args.solver.now.settings in
    let done = c.loop-line.invariant.done in
    let same = done.1 ∙ ap (λ l. done.0 ++ l) c.in-Some.ensures.joined ∙ sym (append_assoc done.0 _ _) in
    let ended = c.in_ok-end_line.ensures in
    record {
      done = (
        _,
        same,
        λ before input start.
            let so_far = done.2 before input start in
            let held = c.push.ensures settings.command _ _ so_far.lines.held in
            subst (λ l. IsAt settings c.end_line.new.self before (g.W.Sink.contents c.end_line.new.writer) l) (append_assoc input done.0 _)
            (up_to_line (reply settings) before (input ++ done.0) _ c.in-Some.ensures.line _ _ _ (ended.ok before _ _ _ held so_far.gathered)
            (behind_line settings _ _ _ _ _ so_far.lines.faulty (ended.line _ _ held) (ended.faulty _ _ held))),
      );
      works = ended.works ∙ c.loop-line.invariant.works;
    }

pub returns-clause-ok : goal.returns-clause-ok
returns-clause-ok g c = λ before input start.
    let done = c.loop-line.invariant.done in
    let so_far = done.2 before input start in
    let settings = c.args.solver.now.settings in
    let part = up_to_part (reply settings) before _ _ c.in_default.ensures.none _ (IsBehind settings c.push-2.new.self c.loop-line.self.is_faulty) _ _ so_far
    (record { held = c.push-2.ensures settings.command _ _ so_far.lines.held; faulty = so_far.lines.faulty }) in
    rw (append_assoc input done.0 _, ← done.1) at part
