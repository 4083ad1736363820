use Rattle.oth_pieces.proofs.Histories.{floor_after-true}
use Rattle.oth_pieces.proofs.laws.the_floor_is_true.Goals as goal

pub returns : goal.returns
returns c = floor_after-true
