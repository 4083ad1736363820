use Rattle.oth_run.proofs.running.run.Goals as goal

pub returns-in-Ok-clause-bytes : goal.returns-in-Ok-clause-bytes
returns-in-Ok-clause-bytes g c = let b = c.in-Ok.ensures.bytes in (b.0, b.1, b.2, b.3, b.4)

pub returns-in-Err-clause-bytes : goal.returns-in-Err-clause-bytes
returns-in-Err-clause-bytes g c = let b = c.in-Err.ensures.bytes in (b.0, b.1, b.2, b.3, b.4)
