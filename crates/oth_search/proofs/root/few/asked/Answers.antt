use Rattle.std.proofs.Common.{refl, arith}
use Rattle.std.proofs.lemmas.Int.{ints}
use Rattle.oth_search.proofs.BoundsLemmas.Enclosing.{BoundsAt-same, Decides-nws}
use Rattle.oth_search.proofs.RootLemmas.Few.{lower-narrowed, upper-narrowed}
use Rattle.oth_search.proofs.root.few.asked.Goals as goal

pub nws_with-found-requires : goal.nws_with-found-requires
nws_with-found-requires c =
    let i = c.args.known.interval.is_interval in
    record { low = omega (arith, ints, i.low, c.requires.low); high = omega (arith, ints, i.high, c.requires.high) }

pub narrowed-requires : goal.narrowed-requires
narrowed-requires c = BoundsAt-same _ _ _ _ _ _ refl refl (omega (arith, ints)) c.nws_with-found.ensures.value

pub returns-clause-lower : goal.returns-clause-lower
returns-clause-lower c = lower-narrowed c.args.alpha _ _ _ _ _ _ (omega (arith, ints)) c.narrowed.ensures.above c.narrowed.ensures.below c.requires.low

pub returns-clause-upper : goal.returns-clause-upper
returns-clause-upper c = upper-narrowed c.args.alpha _ _ _ _ _ _ (omega (arith, ints)) c.narrowed.ensures.above c.narrowed.ensures.below c.requires.high

pub returns-clause-decides : goal.returns-clause-decides
returns-clause-decides c = Decides-nws c.args.alpha _ _ _ _ _ _ (omega (arith, ints)) c.narrowed.ensures.above c.narrowed.ensures.below
