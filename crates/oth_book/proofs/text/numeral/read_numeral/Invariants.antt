-- the digits so far are those of the number so far
use Rattle.std.proofs.Common.{◌≡◌, ◌<◌, ◌^◌, take}
use Rattle.oth_book.specs.Numeral.{numeral}
use Rattle.oth_book.proofs.text.numeral.read_numeral.Given as goal

abbrev pub invariant-loop-digit : goal.invariant-loop-digit
invariant-loop-digit l = record {
  text : take l.digit-index l.digits ≡ numeral l.base l.digit-index l.number;
  bound : l.number < l.base ^ l.digit-index;
}
