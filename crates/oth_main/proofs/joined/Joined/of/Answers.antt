use Rattle.std.proofs.Common.{false}
use Rattle.oth_main.proofs.JoinedLemmas.{alone}
use Rattle.oth_main.proofs.joined.Joined.of.Goals as goal

pub returns-clause-remaining : goal.returns-clause-remaining
returns-clause-remaining g c = alone g.R.Source.remaining false _ _ c.new.ensures.items
