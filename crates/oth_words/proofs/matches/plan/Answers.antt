use Rattle.std.proofs.Common.{rules}
use Rattle.oth_words.proofs.matches.plan.Goals as goal

pub returns-in-text : goal.returns-in-text
returns-in-text c = rw c.in-text.is c.verify_plan.ensures

pub returns-in-play : goal.returns-in-play
returns-in-play c = search rules

pub returns-in-scores : goal.returns-in-scores
returns-in-scores c = search rules
