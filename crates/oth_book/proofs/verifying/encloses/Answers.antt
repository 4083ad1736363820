use Rattle.std.proofs.Common.{arith}
use Rattle.std.proofs.lemmas.Int.{ints}
use Rattle.oth_book.proofs.VerifyLemmas.{inside, decided}
use Rattle.oth_book.proofs.verifying.encloses.Goals as goal

pub returns : goal.returns
returns c =
    let claim = c.args.claim.now in
    let found = c.search-found.result in (
      λ h. let both = c.is_within.ensures.0 h in inside claim.lower claim.upper found.lower found.upper _ c.search-found.ensures.encloses both.0 both.1,
      λ h. c.is_within.ensures.1 (decided claim.lower claim.upper found.lower found.upper _ _ _
          (let low = c.requires.low in let ordered = c.requires.ordered in let high = c.requires.high in omega (arith, ints))
          (let low = c.requires.low in let ordered = c.requires.ordered in let high = c.requires.high in omega (arith, ints))
          c.search-found.ensures.encloses c.search-found.ensures.decides h),
    )
