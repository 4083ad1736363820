use Rattle.std.proofs.Common.{sym, ◌∙◌, w8, arith}
use Rattle.std.proofs.lemmas.Int.{to_z-of_z}
use Rattle.oth_book.specs.declared.version.Version.TheVariants.{One, Two}
use Rattle.oth_book.proofs.BoundsLemmas.{bounds_read, no_first, no_second, no_score, one_read, two_read, small_one, small_two}
use Rattle.oth_book.proofs.text.line.read_bounds.Goals as goal

pub returns-in_default-clause-none : goal.returns-in_default-clause-none
returns-in_default-clause-none c = rw c.in-One.is (no_score c.args.text.now c.in_default.ensures.none)

pub returns-in_default-read_bound-clause-none : goal.returns-in_default-read_bound-clause-none
returns-in_default-read_bound-clause-none c =
    let bytes = rw c.in-Two.is at c.requires in
    rw c.in-Two.is (no_first c.in-Two.field-0 c.args.text.now _ bytes c.part.ensures c.in_default-read_bound.ensures.none)

pub returns-in_default-read_bound-2-clause-none : goal.returns-in_default-read_bound-2-clause-none
returns-in_default-read_bound-2-clause-none c =
    let bytes = rw c.in-Two.is at c.requires in
    rw c.in-Two.is (no_second c.in-Two.field-0 c.args.text.now _ bytes c.part-in-Two.ensures c.in_default-read_bound-2.ensures.none)

pub returns-in-Some-clause-text : goal.returns-in-Some-clause-text
returns-in-Some-clause-text c =
    let is = to_z-of_z w8 c.in-Some.score (record { sfits = omega (arith, c.in-Some.ensures.small) }) in
    let variant = rw is at c.of.ensures.variant in
    let bounds = rw is at c.of.ensures.bounds in
    let small = small_one c.in-Some.ensures.small in
    rw c.in-One.is (bounds_read One c.args.text.now _ _ c.of.result small (one_read c.args.text.now _ c.in-Some.ensures.text) variant bounds).0

pub returns-in-Some-clause-none : goal.returns-in-Some-clause-none
returns-in-Some-clause-none c =
    let is = to_z-of_z w8 c.in-Some.score (record { sfits = omega (arith, c.in-Some.ensures.small) }) in
    let variant = rw is at c.of.ensures.variant in
    let bounds = rw is at c.of.ensures.bounds in
    let small = small_one c.in-Some.ensures.small in
    rw c.in-One.is (bounds_read One c.args.text.now _ _ c.of.result small (one_read c.args.text.now _ c.in-Some.ensures.text) variant bounds).1

pub returns-in-Some-read_bound-2-clause-text : goal.returns-in-Some-read_bound-2-clause-text
returns-in-Some-read_bound-2-clause-text c =
    let bytes = rw c.in-Two.is at c.requires in
    let lower_is = to_z-of_z w8 c.in-Some-read_bound.lower (record { sfits = omega (arith, c.in-Some-read_bound.ensures.small) }) in
    let upper_is = to_z-of_z w8 c.in-Some-read_bound-2.upper (record { sfits = omega (arith, c.in-Some-read_bound-2.ensures.small) }) in
    let variant = rw (lower_is, upper_is) at c.of-in-Two.ensures.variant in
    let bounds = rw (lower_is, upper_is) at c.of-in-Two.ensures.bounds in
    let small = small_two c.in-Two.field-0 c.in-Some-read_bound.ensures.small c.in-Some-read_bound-2.ensures.small in
    let text = two_read c.in-Two.field-0 c.args.text.now _ _ bytes (sym c.part.ensures ∙ c.in-Some-read_bound.ensures.text) (sym c.part-in-Two.ensures ∙ c.in-Some-read_bound-2.ensures.text) in
    rw c.in-Two.is (bounds_read (Two c.in-Two.field-0) c.args.text.now _ _ c.of-in-Two.result small text variant bounds).0

pub returns-in-Some-read_bound-2-clause-none : goal.returns-in-Some-read_bound-2-clause-none
returns-in-Some-read_bound-2-clause-none c =
    let bytes = rw c.in-Two.is at c.requires in
    let lower_is = to_z-of_z w8 c.in-Some-read_bound.lower (record { sfits = omega (arith, c.in-Some-read_bound.ensures.small) }) in
    let upper_is = to_z-of_z w8 c.in-Some-read_bound-2.upper (record { sfits = omega (arith, c.in-Some-read_bound-2.ensures.small) }) in
    let variant = rw (lower_is, upper_is) at c.of-in-Two.ensures.variant in
    let bounds = rw (lower_is, upper_is) at c.of-in-Two.ensures.bounds in
    let small = small_two c.in-Two.field-0 c.in-Some-read_bound.ensures.small c.in-Some-read_bound-2.ensures.small in
    let text = two_read c.in-Two.field-0 c.args.text.now _ _ bytes (sym c.part.ensures ∙ c.in-Some-read_bound.ensures.text) (sym c.part-in-Two.ensures ∙ c.in-Some-read_bound-2.ensures.text) in
    rw c.in-Two.is (bounds_read (Two c.in-Two.field-0) c.args.text.now _ _ c.of-in-Two.result small text variant bounds).1
