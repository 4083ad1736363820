use Rattle.oth_search.proofs.BoundsLemmas.SquareSets.{In-first_of, least-first_of}
use Rattle.oth_search.proofs.bounds.square_set.first.Goals as goal

pub returns-clause-member : goal.returns-clause-member
returns-clause-member c = In-first_of c.args.set _ c.first_of.ensures.below c.first_of.ensures.member

pub returns-clause-least : goal.returns-clause-least
returns-clause-least c = least-first_of c.args.set _ c.first_of.ensures.least
