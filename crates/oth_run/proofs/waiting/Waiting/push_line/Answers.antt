use Rattle.std.proofs.Common.{◌∷◌, [], ◌++◌, ◌∙◌, refl, sym, append_assoc}
use Rattle.oth_run.proofs.GatherLemmas.{beginning_within, on_err_always}
use Rattle.oth_run.proofs.waiting.Waiting.push_line.Goals as goal

pub returns-in_err-push_text-clause-err : goal.returns-in_err-push_text-clause-err
returns-in_err-push_text-clause-err g c = on_err_always c.from_residual.result (λ before done gathered.
    beginning_within before _ done _ (c.in_err-push_text.ensures.err before done gathered) (c.args.text.now ++ 10 ∷ [], refl))

pub returns-in_err-push_end-clause-err : goal.returns-in_err-push_end-clause-err
returns-in_err-push_end-clause-err g c = on_err_always c.from_residual-in_err-push_end.result (λ before done gathered.
    let first = c.in_ok-push_text.ensures.ok before done gathered in
    beginning_within before _ _ _ (c.in_err-push_end.ensures.err before _ first) (10 ∷ [], sym (append_assoc done _ _)))

pub returns-clause-ok : goal.returns-clause-ok
returns-clause-ok g c = λ before done gathered.
    let first = c.in_ok-push_text.ensures.ok before done gathered in
    let second = c.in_ok-push_end.ensures.ok before _ first in
    (second.0, second.1, sym (append_assoc done _ _) ∙ second.2)
