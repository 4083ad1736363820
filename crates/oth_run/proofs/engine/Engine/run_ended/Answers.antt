use Rattle.std.proofs.Common.{[]}
use Rattle.std.proofs.KnownBytes.{Consumes-kept, Consumes-nil}
use Rattle.oth_run.proofs.CutLemmas.{at_start, none_written, runs_from_start, up_to_none}
use Rattle.oth_run.proofs.engine.Engine.run_ended.Goals as goal

pub returns-in_default-clause-bytes : goal.returns-in_default-clause-bytes
returns-in_default-clause-bytes g c = ([], Consumes-kept _ _ _ _ (Consumes-nil _) c.in_default.ensures.bytes, none_written _ _)

pub returns-then-count-eq0-clause-bytes : goal.returns-then-count-eq0-clause-bytes
returns-then-count-eq0-clause-bytes g c = (
  _,
  c.in-Ok.ensures.bytes.0,
  rw c.if-count-eq0.true (up_to_none _ _ _ (record { held = c.requires.line; faulty = c.requires.faulty })),
)

pub returns-clause-bytes : goal.returns-clause-bytes
returns-clause-bytes g c =
    runs_from_start _ _ _ _ _ _ _ _ _ _ _ (at_start _ _ _ c.requires.line c.requires.faulty c.requires.waiting) c.in-Ok.ensures.bytes.0 c.run_from.ensures.bytes

pub returns-then-solver-lt2-clause-bytes : goal.returns-then-solver-lt2-clause-bytes
returns-then-solver-lt2-clause-bytes g c =
    runs_from_start _ _ _ _ _ _ _ _ _ _ _ (at_start _ _ _ c.requires.line c.requires.faulty c.requires.waiting) c.in-Ok.ensures.bytes.0 c.run_on.ensures.bytes
