use Rattle.std.proofs.Common.{refl, sym, true≢false}
use Rattle.std.proofs.lemmas.Result.{err_from_is_err_and}
use Rattle.oth_main.proofs.AdditionLemmas.{answers_fault, answers_few, answers_many}
use Rattle.oth_main.proofs.book.addition.Addition.answer.Goals as goal

pub returns-in_err-position-clause-answers : goal.returns-in_err-position-clause-answers
returns-in_err-position-clause-answers g c = λ line kept.
    let p = err_from_is_err_and c.from_residual.result c.from_residual.ensures.1 in
    rw (p.1, p.2) (answers_fault line c.in_err-position.field-0.0 (sym (c.in_err-position.ensures line kept)))

pub returns-in-Ok-clause-answers : goal.returns-in-Ok-clause-answers
returns-in-Ok-clause-answers g c = λ line kept.
    answers_few line c.in_ok-position.position c.in-Ok.answer (sym (c.in_ok-position.ensures line kept)) c.in-Ok.ensures.board (λ many. true≢false (sym (c.in-Ok.ensures.refused.1 many)))

pub returns-in-Err-clause-answers : goal.returns-in-Err-clause-answers
returns-in-Err-clause-answers g c = λ line kept.
    answers_many line c.in_ok-position.position c.in-Err.many.empties (sym (c.in_ok-position.ensures line kept)) c.in-Err.ensures.counted (c.in-Err.ensures.refused.0 refl)
