use Rattle.std.proofs.Common.{refl, arith}
use Rattle.std.proofs.lemmas.Int.{ints}
use Rattle.oth_search.proofs.BoundsLemmas.Enclosing.{BoundsAt-same, Decides-nws}
use Rattle.oth_search.proofs.PvsLemmas.Withins.{Decides-same}
use Rattle.oth_search.proofs.RootLemmas.Few.{lower-narrowed, upper-narrowed}
use Rattle.oth_search.proofs.bounds.solved.Solved.decided_with.Goals as goal

pub returns-then-decides-2-clause-decides : goal.returns-then-decides-2-clause-decides
returns-then-decides-2-clause-decides g c = Decides-same _ _ _ _ _ _ (omega (arith, ints)) (omega (arith, ints)) (c.decides-2.ensures.decided c.if-decides-2.true)

pub nws_heard-found-requires : goal.nws_heard-found-requires
nws_heard-found-requires g c =
    let o = c.decides-2.ensures.open c.if-decides-2.false in
    let known = c.joined-known.result.interval.is_interval in
    record { low = omega (arith, ints, o.below, known.low); high = omega (arith, ints, o.above, known.high) }

pub narrowed-solved-requires : goal.narrowed-solved-requires
narrowed-solved-requires g c = BoundsAt-same _ _ _ _ _ _ refl refl (omega (arith, ints)) c.nws_heard-found.ensures.value

pub returns-clause-lower : goal.returns-clause-lower
returns-clause-lower g c =
    let known = c.joined-known.ensures.lower in
    let o = c.decides-2.ensures.open c.if-decides-2.false in
    let solved = lower-narrowed c.args.alpha _ _ _ _ _ _ (omega (arith, ints)) c.narrowed-solved.ensures.above c.narrowed-solved.ensures.below (omega (arith, ints, o.below)) in
    omega (arith, ints, known, solved)

pub returns-clause-upper : goal.returns-clause-upper
returns-clause-upper g c =
    let known = c.joined-known.ensures.upper in
    let o = c.decides-2.ensures.open c.if-decides-2.false in
    let solved = upper-narrowed c.args.alpha _ _ _ _ _ _ (omega (arith, ints)) c.narrowed-solved.ensures.above c.narrowed-solved.ensures.below (omega (arith, ints, o.above)) in
    omega (arith, ints, known, solved)

pub returns-clause-decides : goal.returns-clause-decides
returns-clause-decides g c = Decides-nws c.args.alpha _ _ _ _ _ _ (omega (arith, ints)) c.narrowed-solved.ensures.above c.narrowed-solved.ensures.below
