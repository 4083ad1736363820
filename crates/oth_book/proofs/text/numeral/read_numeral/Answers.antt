use Rattle.std.proofs.Common.{◌≡◌, ◌<◌, ◌∷◌, [], ◌++◌, arith, sym, ap, ◌∙◌, refl, lit<, length, slice_index}
use Rattle.std.proofs.Math.Nat.{pow-zero}
use Rattle.std.proofs.lemmas.List.{take_more}
use Rattle.oth_book.specs.Numeral.{numeral, digit_byte}
use Rattle.oth_book.proofs.NumeralLemmas.{push_fits, bound-push, numeral-push}
use Rattle.oth_book.proofs.text.numeral.read_numeral.Goals as goal

pub loop-digit-init : goal.loop-digit-init
unfolding numeral
loop-digit-init c = record { text = refl; bound = rw pow-zero (lit< tt) }

pub overflow_mul-number : goal.overflow_mul-number
overflow_mul-number c =
    let is = c.requires.digits c.loop-digit.digit-index c.loop-digit-test.true in
    omega (arith, push_fits c.args.base c.loop-digit.digit-index (length c.args.digits.now) c.loop-digit.number _ is.value c.loop-digit.invariant.bound c.loop-digit-test.true c.requires.room)

pub overflow_add-number : goal.overflow_add-number
overflow_add-number c =
    let is = c.requires.digits c.loop-digit.digit-index c.loop-digit-test.true in
    omega (
      arith,
      c.value.ensures,
      push_fits c.args.base c.loop-digit.digit-index (length c.args.digits.now) c.loop-digit.number _ is.value c.loop-digit.invariant.bound c.loop-digit-test.true c.requires.room,
    )

pub loop-digit-preserved : goal.loop-digit-preserved
loop-digit-preserved c =
    let is = c.requires.digits c.loop-digit.digit-index c.loop-digit-test.true in
    let below : c.value.result < c.args.base = omega (arith, c.value.ensures, is.value) in
    let byte : digit_byte c.value.result ≡ slice_index c.args.digits.now c.loop-digit.digit-index = ap digit_byte c.value.ensures ∙ is.byte in
    record {
      text =
          take_more c.args.digits.now c.loop-digit.digit-index 0 c.loop-digit-test.true
          ∙ ap (λ xs. xs ++ slice_index c.args.digits.now c.loop-digit.digit-index ∷ []) c.loop-digit.invariant.text
          ∙ ap (λ b. numeral c.args.base c.loop-digit.digit-index c.loop-digit.number ++ b ∷ []) (sym byte)
          ∙ sym (numeral-push c.args.base c.loop-digit.digit-index c.loop-digit.number c.value.result below);
      bound = bound-push c.args.base c.loop-digit.digit-index c.loop-digit.number c.value.result below c.loop-digit.invariant.bound;
    }
