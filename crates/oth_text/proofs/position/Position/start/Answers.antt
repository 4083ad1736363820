use Rattle.oth_text.proofs.ReadingLemmas.{start_is}
use Rattle.oth_text.proofs.position.Position.start.Goals as goal

pub returns : goal.returns
returns c = let made = c.of_sides.ensures in start_is _ made.own made.opp made.mover
