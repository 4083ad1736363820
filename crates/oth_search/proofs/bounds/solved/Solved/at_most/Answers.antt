use Rattle.std.proofs.Common.{inl, inr, arith}
use Rattle.std.proofs.lemmas.Int.{ints}
use Rattle.oth_search.proofs.bounds.solved.Solved.at_most.Goals as goal

pub returns-then-known-limit-clause-decides : goal.returns-then-known-limit-clause-decides
returns-then-known-limit-clause-decides g c = inr (inl (omega (arith, ints, c.if-known-limit.true)))

pub returns-clause-decides : goal.returns-clause-decides
returns-clause-decides g c = inl c.exact.ensures.exact
