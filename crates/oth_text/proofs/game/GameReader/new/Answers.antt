use Rattle.oth_text.proofs.GameLemmas.{nothing}
use Rattle.oth_text.proofs.game.GameReader.new.Goals as goal

pub returns : goal.returns
returns c = (nothing, c.new.ensures)
