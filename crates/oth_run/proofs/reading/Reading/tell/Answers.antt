use Rattle.std.proofs.Common.{◌∙◌}
use Rattle.std.proofs.lemmas.Result.{on_err_weaker, on_ok_weaker}
use Rattle.oth_run.proofs.GatherLemmas.{gathers_as, stops_as, stops_in}
use Rattle.oth_run.proofs.ReplyLemmas.{analysed, faulted, moved, reached, scored, solved}
use Rattle.oth_run.proofs.reading.Reading.tell.Goals as goal

pub returns-in-Solve-clause-ok : goal.returns-in-Solve-clause-ok
returns-in-Solve-clause-ok g c = on_ok_weaker c.tell_answer.result (λ told. λ number line read.
    let kept = rw c.in-Solve.is at read in
    gathers_as _ _ _ _ _ _ (solved c.args.solver.now.settings number line _ kept.0 kept.1) told) c.tell_answer.ensures.ok

pub returns-in-Solve-clause-err : goal.returns-in-Solve-clause-err
returns-in-Solve-clause-err g c = on_err_weaker c.tell_answer.result (λ stops. λ number line read.
    let kept = rw c.in-Solve.is at read in
    stops_as _ _ _ _ _ (solved c.args.solver.now.settings number line _ kept.0 kept.1) stops) c.tell_answer.ensures.err

pub returns-in-Scores-clause-ok : goal.returns-in-Scores-clause-ok
returns-in-Scores-clause-ok g c = on_ok_weaker c.tell_scores.result (λ told. λ number line read.
    let kept = rw c.in-Scores.is at read in
    gathers_as _ _ _ _ _ _ (scored c.args.solver.now.settings number line _ kept.0 kept.1) told) c.tell_scores.ensures.ok

pub returns-in-Scores-clause-err : goal.returns-in-Scores-clause-err
returns-in-Scores-clause-err g c = on_err_weaker c.tell_scores.result (λ stops. λ number line read.
    let kept = rw c.in-Scores.is at read in
    stops_as _ _ _ _ _ (scored c.args.solver.now.settings number line _ kept.0 kept.1) stops) c.tell_scores.ensures.err

pub returns-in-Moves-clause-ok : goal.returns-in-Moves-clause-ok
returns-in-Moves-clause-ok g c = on_ok_weaker c.tell_moves.result (λ told. λ number line read.
    let kept = rw c.in-Moves.is at read in
    gathers_as _ _ _ _ _ _ (moved c.args.solver.now.settings number line _ kept.0 kept.1) told) c.tell_moves.ensures.ok

pub returns-in-Moves-clause-err : goal.returns-in-Moves-clause-err
returns-in-Moves-clause-err g c = on_err_weaker c.tell_moves.result (λ stops. λ number line read.
    let kept = rw c.in-Moves.is at read in
    stops_as _ _ _ _ _ (moved c.args.solver.now.settings number line _ kept.0 kept.1) stops) c.tell_moves.ensures.err

pub returns-in-Reached-clause-ok : goal.returns-in-Reached-clause-ok
returns-in-Reached-clause-ok g c = on_ok_weaker c.tell_position.result (λ told. λ number line read.
    let kept = rw c.in-Reached.is at read in
    gathers_as _ _ _ _ _ _ (reached c.args.solver.now.settings number line _ kept) told) c.tell_position.ensures.ok

pub returns-in-Reached-clause-err : goal.returns-in-Reached-clause-err
returns-in-Reached-clause-err g c = on_err_weaker c.tell_position.result (λ stops. λ number line read.
    let kept = rw c.in-Reached.is at read in
    stops_as _ _ _ _ _ (reached c.args.solver.now.settings number line _ kept) stops) c.tell_position.ensures.err

pub returns-in-Faulty-clause-ok : goal.returns-in-Faulty-clause-ok
returns-in-Faulty-clause-ok g c = on_ok_weaker c.push_text.result (λ told. λ number line read.
    let kept = rw c.in-Faulty.is at read in
    gathers_as _ _ _ _ _ _ (c.as_slice.ensures.value ∙ c.any_fault_line.ensures.text ∙ faulted _ c.args.solver.now.settings number line kept.0 kept.1) told) c.push_text.ensures.ok

pub returns-in-Faulty-clause-err : goal.returns-in-Faulty-clause-err
returns-in-Faulty-clause-err g c = on_err_weaker c.push_text.result (λ stops. λ number line read. stops_in _ _ _ _ stops) c.push_text.ensures.err

pub returns-in-Analyse-clause-ok : goal.returns-in-Analyse-clause-ok
returns-in-Analyse-clause-ok g c = on_ok_weaker c.tell.result (λ told. λ number line read.
    let kept = rw c.in-Analyse.is at read in
    gathers_as _ _ _ _ _ _ (analysed c.args.solver.now.settings number line _ _ kept.0 kept.1) (told line kept.2 kept.3)) c.tell.ensures.ok

pub returns-in-Analyse-clause-err : goal.returns-in-Analyse-clause-err
returns-in-Analyse-clause-err g c = on_err_weaker c.tell.result (λ stops. λ number line read.
    let kept = rw c.in-Analyse.is at read in
    stops_as _ _ _ _ _ (analysed c.args.solver.now.settings number line _ _ kept.0 kept.1) (stops line kept.2 kept.3)) c.tell.ensures.err
