use Rattle.std.proofs.Common.{refl, arith, w8, eqb-true}
use Rattle.std.proofs.lemmas.Int.{to_z-of_z}
use Rattle.oth_book.proofs.LineLemmas.{length-part}
use Rattle.oth_book.proofs.EntryLemmas.{bound_read, bound_none}
use Rattle.oth_book.proofs.text.line.read_bound.Goals as goal
use Rattle.oth_book.proofs.text.line.read_bound.Goals.{else-is_negative-via-then-is_negative+else-number-eq0, else-is_negative-via-else-is_negative}

pub returns-then-number-eq0-clause-none : goal.returns-then-number-eq0-clause-none
returns-then-number-eq0-clause-none c =
    let len = length-part 1 2 c.args.text.now (omega (arith, c.requires.len)) in
    let text = rw (c.part.ensures, len, c.if-number-eq0.true) at c.read_numeral-number.ensures.text in
    bound_none c.args.text.now c.requires c.if-is_negative.true text

pub returns-clause-text : goal.returns-clause-text
returns-clause-text c =
    let len = length-part 1 2 c.args.text.now (omega (arith, c.requires.len)) in
    let text = rw (c.part.ensures, len) at c.read_numeral-number.ensures.text in
    rw (to_z-of_z w8 c.bound_of.result (record { sfits = c.bound_of.type_inv }), c.bound_of.ensures)
    (bound_read c.args.text.now _ c.read_numeral-number.result c.requires refl text (λ h. elim c.else-is_negative.branch [
      | else-is_negative-via-then-is_negative+else-number-eq0 w ↦ omega (arith, w.if-number-eq0.false)
      | else-is_negative-via-else-is_negative w ↦ absurd (w.if-is_negative.false (eqb-true _ _ h))
    ]))
