use Rattle.oth_search.proofs.BoundsLemmas.SquareSets.{Without-first, less-first}
use Rattle.oth_search.proofs.bounds.square_set.without.Goals as goal

pub returns-clause-fewer : goal.returns-clause-fewer
returns-clause-fewer c = less-first c.args.set c.args.square _ c.requires c.word.ensures.value

pub returns-clause-rest : goal.returns-clause-rest
returns-clause-rest c = Without-first c.args.set c.args.square _ c.requires.on_board c.word.ensures.value
