use Rattle.std.proofs.Common.{rules}
use Rattle.oth_text.specs.Sides.{start}
use Rattle.oth_run.proofs.line.Kept.is_empty.Goals as goal

pub returns-in-Transcript : goal.returns-in-Transcript
returns-in-Transcript c = λ command line holds.
    let kept = rw c.in-Transcript.is at holds in
    c.is_empty.ensures start line kept.1

pub returns-in-Solve : goal.returns-in-Solve
returns-in-Solve c = search rules
