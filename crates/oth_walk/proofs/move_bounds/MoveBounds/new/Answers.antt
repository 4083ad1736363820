use Rattle.oth_walk.proofs.Truths.{nothing_told}
use Rattle.oth_walk.proofs.move_bounds.MoveBounds.new.Goals as goal

pub of_words-requires : goal.of_words-requires
of_words-requires c = nothing_told _
