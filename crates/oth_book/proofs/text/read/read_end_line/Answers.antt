use Rattle.std.proofs.Common.{sym, ap, ◌∙◌, inr, arith}
use Rattle.oth_book.specs.Fault.{EndLine, fitted}
use Rattle.oth_book.proofs.ReadLemmas.{end_line-injective}
use Rattle.oth_book.proofs.text.read.read_end_line.Goals as goal

pub returns-then-read_end-place-clause-fault : goal.returns-then-read_end-place-clause-fault
returns-then-read_end-place-clause-fault c =
    inr (
      sym c.requires.stand ∙ ap (λ f. fitted f EndLine) (sym c.in-Whole.ensures.fit),
      λ after e. c.if-read_end-place.true (end_line-injective _ _ _ after c.read_end.ensures.bound (omega (arith, c.requires.few)) (sym c.read_end.ensures.line ∙ e)).0,
    )
