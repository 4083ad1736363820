use Rattle.std.proofs.Common.{◌++◌, ◌∙◌, ap, sym, append-nil}
use Rattle.oth_run.proofs.waiting.Waiting.write_if.Goals as goal

pub returns-clause-ok : goal.returns-clause-ok
returns-clause-ok g c = λ before done gathered.
    (done, c.in_ok-write_to.ensures.ok before done gathered, sym (ap (λ l. done ++ l) c.in_ok-write_to.ensures.empty ∙ append-nil done))
