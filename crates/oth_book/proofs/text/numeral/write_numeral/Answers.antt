use Rattle.std.proofs.Common.{arith}
use Rattle.oth_book.proofs.NumeralLemmas.{numeral-write_down, numeral-all}
use Rattle.oth_book.proofs.text.numeral.write_numeral.Goals as goal

pub loop-place-preserved : goal.loop-place-preserved
loop-place-preserved c =
    rw c.digit.ensures (numeral-write_down c.args.base c.loop-place.place c.loop-place.rest c.loop-place.digits _ c.loop-place-test.true (omega arith) c.loop-place.invariant)

pub returns : goal.returns
returns c = numeral-all c.args.base c.loop-place.place c.loop-place.rest c.loop-place.digits _ (omega arith) c.loop-place.invariant
