use Rattle.std.proofs.Common.{◌||◌, ◌∷◌, [], ◌∙◌, ap, sym, append_assoc, is_some, refl}
use Rattle.oth_run.proofs.GatherLemmas.{beginning_within, on_err_always}
use Rattle.oth_run.proofs.engine.Engine.end_line.Goals as goal

pub returns-in_err-write_if-clause-err : goal.returns-in_err-write_if-clause-err
returns-in_err-write_if-clause-err g c = on_err_always c.from_residual.result (λ before done text number held gathered.
    beginning_within before _ _ _ (c.in_err-write_if.ensures.err before _ gathered) (_, refl))

pub returns-in_err-tell-clause-err : goal.returns-in_err-tell-clause-err
returns-in_err-tell-clause-err g c = on_err_always c.from_residual-in_err-tell.result (λ before done text number held gathered.
    let read = c.read-reading.ensures _ number text held in
    beginning_within before _ _ _ (c.in_err-tell.ensures.err number text read before done (c.in_ok-write_if.ensures.ok before _ gathered)) (10 ∷ [], sym (append_assoc done _ _)))

pub returns-in_err-push_end-clause-err : goal.returns-in_err-push_end-clause-err
returns-in_err-push_end-clause-err g c = on_err_always c.from_residual-in_err-push_end.result (λ before done text number held gathered.
    let read = c.read-reading.ensures _ number text held in
    let first = c.in_ok-tell.ensures.ok number text read before done (c.in_ok-write_if.ensures.ok before _ gathered) in
    beginning_within before _ _ _ (c.in_err-push_end.ensures.err before _ first) (10 ∷ [], sym (append_assoc done _ _)))

pub returns-in_err-write_if-2-clause-err : goal.returns-in_err-write_if-2-clause-err
returns-in_err-write_if-2-clause-err g c = on_err_always c.from_residual-in_err-write_if-2.result (λ before done text number held gathered.
    let read = c.read-reading.ensures _ number text held in
    let first = c.in_ok-tell.ensures.ok number text read before done (c.in_ok-write_if.ensures.ok before _ gathered) in
    let second = c.in_ok-push_end.ensures.ok before _ first in
    rw (append_assoc done _ _) at (c.in_err-write_if-2.ensures.err before _ second))

pub returns-clause-ok : goal.returns-clause-ok
returns-clause-ok g c = λ before done text number held gathered.
    let read = c.read-reading.ensures _ number text held in
    let first = c.in_ok-tell.ensures.ok number text read before done (c.in_ok-write_if.ensures.ok before _ gathered) in
    let second = c.in_ok-push_end.ensures.ok before _ first in
    let third = c.in_ok-write_if-2.ensures.ok before _ second in
    rw (c.answered.ensures.contents) ((third.0, third.1, sym (append_assoc done _ _) ∙ third.2))

pub returns-clause-line : goal.returns-clause-line
returns-clause-line g c = λ number line held. c.clear.ensures _ number line held

pub returns-clause-faulty : goal.returns-clause-faulty
returns-clause-faulty g c = λ number line held.
    let found = c.fault-fault.ensures _ number line (c.read-reading.ensures _ number line held) in
    ap (λ b. c.args.self.now.is_faulty || b) (c.is_some-2.ensures ∙ ap is_some found)
