use Rattle.std.proofs.Common.{arith}
use Rattle.std.proofs.lemmas.Int.{ints}
use Rattle.oth_search.proofs.PvsLemmas.Withins.{Decides-same}
use Rattle.oth_search.proofs.bounds.solved.Solved.by_search.Goals as goal

pub returns-clause-decides : goal.returns-clause-decides
returns-clause-decides g c = Decides-same _ _ _ _ _ _ (omega (arith, ints)) (omega (arith, ints)) c.search-interval.ensures.decides
