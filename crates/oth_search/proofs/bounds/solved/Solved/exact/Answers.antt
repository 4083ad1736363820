use Rattle.std.proofs.Common.{arith}
use Rattle.std.proofs.lemmas.Int.{ints}
use Rattle.oth_search.proofs.RootLemmas.RootSearch.{fewer}
use Rattle.oth_search.proofs.bounds.solved.Solved.exact.Goals as goal

pub loop-reply-smaller : goal.loop-reply-smaller
loop-reply-smaller g c =
    let old = c.loop-reply.reply.interval in
    let new = c.decided_with-reply.result.interval in
    fewer old.lower old.upper new.lower new.upper c.below-alpha.result _ _ new.is_interval
    (omega (arith, ints, c.below-alpha.ensures.low))
    (omega (arith, ints, c.below-alpha.ensures.high (omega (arith, ints, c.loop-reply-test.true))))
    (omega (arith, ints, c.decided_with-reply.ensures.lower)) (omega (arith, ints, c.decided_with-reply.ensures.upper)) (omega (arith, ints)) (omega (arith, ints)) c.decided_with-reply.ensures.decides

pub returns-clause-exact : goal.returns-clause-exact
returns-clause-exact g c =
    let ordered = c.loop-reply.reply.interval.is_interval.ordered in
    omega (arith, ints, c.loop-reply-test.false, ordered)
