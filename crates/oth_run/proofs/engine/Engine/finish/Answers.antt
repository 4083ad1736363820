use Rattle.std.proofs.Common.{[], ◌++◌, sym, append-nil, rules}
use Rattle.std.proofs.KnownBytes.{Appends-kept}
use Rattle.oth_run.specs.Report.{last_report}
use Rattle.oth_run.specs.Reply.{reply}
use Rattle.oth_run.proofs.GatherLemmas.{on_err_always, on_ok_always}
use Rattle.oth_run.proofs.engine.Engine.finish.Goals as goal

pub returns-in_err-write_to-clause-err : goal.returns-in_err-write_to-clause-err
returns-in_err-write_to-clause-err g c = on_err_always c.from_residual-in_err-write_to.result (λ before done text number held gathered.
    c.in_err-write_to.ensures.err before _ (c.in_ok-end_last.ensures.ok before done text number held gathered))

pub returns-clause-ok : goal.returns-clause-ok
returns-clause-ok g c = on_ok_always c.flush.result (λ before done text number held gathered.
    Appends-kept before _ _ _ (c.in_ok-write_to.ensures.ok before _ (c.in_ok-end_last.ensures.ok before done text number held gathered)) c.flush.ensures.bytes)

pub returns-clause-err : goal.returns-clause-err
returns-clause-err g c = on_err_always c.flush.result (λ before done text number held gathered.
    let all = done ++ last_report (reply c.args.solver.now.settings) number text in
    let written = c.in_ok-write_to.ensures.ok before _ (c.in_ok-end_last.ensures.ok before done text number held gathered) in
    (all, Appends-kept before _ _ _ written c.flush.ensures.bytes, ([], sym (append-nil all))))

pub returns-clause-flushed : goal.returns-clause-flushed
returns-clause-flushed g c = search rules
