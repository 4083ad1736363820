use Rattle.std.proofs.lemmas.Result.{on_err_weaker, on_ok_weaker}
use Rattle.oth_main.proofs.AdditionLemmas.{added_last, added_none, full_last}
use Rattle.oth_main.proofs.book.addition.Addition.end_last.Goals as goal

pub returns-then-is_empty-clause-ok : goal.returns-then-is_empty-clause-ok
returns-then-is_empty-clause-ok g c = λ before input so_far.
    added_none before c.args.self.now.book c.args.self.now.line input c.is_empty.result (c.is_empty.ensures _ so_far.line) c.if-is_empty.true so_far

pub returns-clause-ok : goal.returns-clause-ok
returns-clause-ok g c = on_ok_weaker c.end_line.result (λ done. λ before input so_far.
    added_last before _ _ input c.is_empty.result (c.is_empty.ensures _ so_far.line) c.if-is_empty.false (done before input so_far)) c.end_line.ensures.ok

pub returns-clause-full : goal.returns-clause-full
returns-clause-full g c = on_err_weaker c.end_line.result (λ full. λ before input so_far.
    full_last before input c.is_empty.result (c.is_empty.ensures _ so_far.line) c.if-is_empty.false (full before input so_far)) c.end_line.ensures.full
