use Rattle.oth_main.proofs.AdditionLemmas.{adding_ended, full_line}
use Rattle.oth_run.proofs.GatherLemmas.{on_err_always}
use Rattle.oth_main.proofs.book.addition.Addition.end_line.Goals as goal

pub returns-in_err-add_line-clause-full : goal.returns-in_err-add_line-clause-full
returns-in_err-add_line-clause-full g c = on_err_always c.from_residual.result (λ before input so_far.
    full_line before c.args.self.now.book c.args.self.now.line input so_far (c.in_err-add_line.ensures.full _ so_far.line))

pub returns-clause-ok : goal.returns-clause-ok
returns-clause-ok g c = λ before input so_far.
    adding_ended before c.args.self.now.book _ c.args.self.now.line _ input so_far c.in_ok-add_line.ensures.kept (c.in_ok-add_line.ensures.holds so_far.extends.holds)
    c.clear.ensures (c.in_ok-add_line.ensures.answered _ so_far.line)
