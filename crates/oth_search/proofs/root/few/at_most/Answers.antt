use Rattle.std.proofs.Common.{arith}
use Rattle.std.proofs.lemmas.Int.{ints}
use Rattle.oth_search.proofs.RootLemmas.RootSearch.{fewer}
use Rattle.oth_search.proofs.root.few.at_most.Goals as goal

pub loop-pace-smaller : goal.loop-pace-smaller
loop-pace-smaller c =
    let old = c.loop-pace.reply.interval in
    let new = c.asked-reply.result.interval in
    let wide = (c.decides.ensures.open c.loop-pace-test.true).wide in
    fewer old.lower old.upper new.lower new.upper c.onward-alpha.result _ _ new.is_interval
    (omega (arith, ints, c.onward-alpha.ensures.low (omega (arith, ints, wide))))
    (omega (arith, ints, c.onward-alpha.ensures.high (omega (arith, ints, wide))))
    (omega (arith, ints, c.asked-reply.ensures.lower)) (omega (arith, ints, c.asked-reply.ensures.upper)) (omega (arith, ints)) (omega (arith, ints)) c.asked-reply.ensures.decides
