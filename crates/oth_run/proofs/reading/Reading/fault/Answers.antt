use Rattle.std.proofs.Common.{sym}
use Rattle.oth_run.proofs.ReplyLemmas.{of_analysed}
use Rattle.oth_run.proofs.reading.Reading.fault.Goals as goal

pub returns-in-Faulty : goal.returns-in-Faulty
returns-in-Faulty c = λ command number line read.
    let kept = rw c.in-Faulty.is at read in sym kept.1

pub returns-in-Analyse : goal.returns-in-Analyse
returns-in-Analyse c = λ command number line read.
    let kept = rw c.in-Analyse.is at read in of_analysed command line _ _ kept.0 kept.3
