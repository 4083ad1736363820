-- the digits of the rest, and then those that were written, are those of the number
use Rattle.std.proofs.Common.{◌≡◌, ◌++◌, length, drop}
use Rattle.oth_book.specs.Numeral.{numeral}
use Rattle.oth_book.proofs.text.numeral.write_numeral.Given as goal

abbrev pub invariant-loop-place : goal.invariant-loop-place
invariant-loop-place l = numeral l.base l.place l.rest ++ drop l.place l.digits ≡ numeral l.base (length l.fn.digits) l.number
