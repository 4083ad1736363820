use Rattle.std.proofs.Common.{◌∙◌, arith}
use Rattle.std.proofs.lemmas.Int.{ints}
use Rattle.oth_search.proofs.RootLemmas.RootSearch.{IsScore-one}
use Rattle.oth_search.proofs.root.guess.least_seen.Goals as goal

pub guessed-requires : goal.guessed-requires
guessed-requires g c = record { low = omega (arith, ints, c.requires.threshold.high); high = omega (arith, ints, c.requires.threshold.low) }

pub loop-place-preserved : goal.loop-place-preserved
loop-place-preserved g c =
    let before = c.loop-place.invariant in (
      IsScore-one _ c.least_of-found.result _ _ c.lesser-least.result _ before.0 c.least_of-found.ensures.score (omega (arith, ints)) (omega (arith, ints)) (omega (arith, ints))
          c.lesser-least.ensures.one,
      before.1,
      c.least_of-found.ensures.fixed ∙ before.2,
    )
