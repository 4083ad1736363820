use Rattle.std.proofs.Common.{rules}
use Rattle.oth_search.proofs.BoundsLemmas.SquareSets.{In-word}
use Rattle.oth_search.proofs.bounds.square_set.holds.Goals as goal

pub returns : goal.returns
returns c = λ h. In-word c.args.set c.args.square c.word-word.result c.word-word.ensures.below c.word-word.ensures.value (search rules)
