use Rattle.std.proofs.Common.{rules}
use Rattle.oth_run.proofs.GatherLemmas.{gathered_part, on_err_always}
use Rattle.oth_run.proofs.waiting.Waiting.write_to.Goals as goal

pub returns-in_err-write_all-clause-err : goal.returns-in_err-write_all-clause-err
returns-in_err-write_all-clause-err g c = on_err_always c.from_residual.result (λ before done gathered.
    gathered_part before _ _ _ done gathered (rw c.as_slice.ensures.value at c.in_err-write_all.ensures.err))

pub returns-clause-empty : goal.returns-clause-empty
returns-clause-empty g c = search rules
