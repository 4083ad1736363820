use Rattle.oth_search.proofs.BoundsLemmas.SquareSets.{With-set}
use Rattle.oth_search.proofs.bounds.square_set.with.Goals as goal

pub returns : goal.returns
returns c = With-set c.args.set c.args.square _ c.word.ensures.below c.word.ensures.value
