use Rattle.oth_run.proofs.CutLemmas.{up_to_written}
use Rattle.oth_run.proofs.GatherLemmas.{on_err_always}
use Rattle.oth_run.proofs.engine.Engine.take_chunk.Goals as goal

pub returns-in_err-write_to-clause-err : goal.returns-in_err-write_to-clause-err
returns-in_err-write_to-clause-err g c = on_err_always c.from_residual-in_err-write_to.result (λ before input start.
    c.in_err-write_to.ensures.err before _ (c.in_ok-take_beside.ensures.ok before input start).gathered)

pub returns-clause-ok : goal.returns-clause-ok
returns-clause-ok g c = λ before input start.
    let so_far = c.in_ok-take_beside.ensures.ok before input start in
    up_to_written _ _ before _ _ _ _ _ so_far (c.in_ok-write_to.ensures.ok before _ so_far.gathered) c.in_ok-write_to.ensures.empty
