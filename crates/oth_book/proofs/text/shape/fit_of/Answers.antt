use Rattle.std.proofs.Common.{arith, sym, ◌∙◌}
use Rattle.oth_book.proofs.ShapeLemmas.{fit-cut, fit-done, fit-allowed, fit-misplaced, is_whole}
use Rattle.oth_book.proofs.text.shape.fit_of.Goals as goal

pub returns-then-place-bytes-clause-fit : goal.returns-then-place-bytes-clause-fit
returns-then-place-bytes-clause-fit c =
    sym (c.loop-place.invariant.so_far ∙ fit-cut c.args.shape _ c.loop-place.place c.args.bytes.now (omega (arith, c.line_len-place-end.ensures)) c.if-place-bytes.true)

pub returns-then-not-is_allowed-clause-fit : goal.returns-then-not-is_allowed-clause-fit
returns-then-not-is_allowed-clause-fit c =
    sym (c.loop-place.invariant.so_far
    ∙ fit-misplaced c.args.shape _ c.loop-place.place c.args.bytes.now (omega (arith, c.line_len-place-end.ensures)) (omega arith) (sym c.is_allowed.ensures ∙ c.if-not-is_allowed.true))

pub loop-place-preserved : goal.loop-place-preserved
loop-place-preserved c = record {
  so_far = c.loop-place.invariant.so_far
      ∙ fit-allowed c.args.shape _ c.loop-place.place c.args.bytes.now (omega (arith, c.line_len-place-end.ensures)) (omega arith) (sym c.is_allowed.ensures ∙ c.if-not-is_allowed.false);
  within = omega arith;
}

pub returns-clause-fit : goal.returns-clause-fit
returns-clause-fit c = sym (c.loop-place.invariant.so_far ∙ fit-done c.args.shape _ c.loop-place.place c.args.bytes.now (omega (arith, c.line_len-place-end.ensures)))

pub returns-clause-whole : goal.returns-clause-whole
returns-clause-whole c = λ _. is_whole c.args.shape c.args.bytes.now
    (c.loop-place.invariant.so_far ∙ fit-done c.args.shape _ c.loop-place.place c.args.bytes.now (omega (arith, c.line_len-place-end.ensures)))
