use Rattle.std.proofs.lemmas.Result.{on_err_weaker, on_ok_weaker}
use Rattle.oth_run.specs.Reply.{reply}
use Rattle.std.proofs.Common.{◌∙◌, ◌++◌, ap, append-nil, sym, ◌||◌}
use Rattle.oth_run.proofs.CutLemmas.{last-none, last-some, last_faulty_none, last_faulty_some}
use Rattle.oth_run.proofs.engine.Engine.end_last.Goals as goal

pub returns-clause-ok : goal.returns-clause-ok
returns-clause-ok g c = on_ok_weaker c.end_line.result (λ ended. λ before done text number held gathered.
    let settings = c.args.solver.now.settings in
    rw (last-some (reply settings) number text _ (c.is_empty.ensures settings.command number text held) c.if-is_empty.false) (ended before done text number held gathered)) c.end_line.ensures.ok

pub returns-clause-err : goal.returns-clause-err
returns-clause-err g c = on_err_weaker c.end_line.result (λ part. λ before done text number held gathered.
    let settings = c.args.solver.now.settings in
    rw (last-some (reply settings) number text _ (c.is_empty.ensures settings.command number text held) c.if-is_empty.false) (part before done text number held gathered)) c.end_line.ensures.err

pub returns-clause-faulty : goal.returns-clause-faulty
returns-clause-faulty g c = on_ok_weaker c.end_line.result (λ ended. λ number text held.
    let command = c.args.solver.now.settings.command in
    let last = last_faulty_some command text _ (c.is_empty.ensures command number text held) c.if-is_empty.false in
    ended number text held ∙ ap (λ b. c.args.self.now.is_faulty || b) (sym last)) c.end_line.ensures.faulty

pub returns-then-is_empty-clause-faulty : goal.returns-then-is_empty-clause-faulty
returns-then-is_empty-clause-faulty g c = λ number text held.
    let command = c.args.solver.now.settings.command in
    last_faulty_none command text _ _ (c.is_empty.ensures command number text held) c.if-is_empty.true

pub returns-then-is_empty-clause-ok : goal.returns-then-is_empty-clause-ok
returns-then-is_empty-clause-ok g c = λ before done text number held gathered.
    let settings = c.args.solver.now.settings in
    let none = last-none (reply settings) number text _ (c.is_empty.ensures settings.command number text held) c.if-is_empty.true in
    (gathered.0, gathered.1, ap (λ l. done ++ l) none ∙ append-nil done ∙ gathered.2)
