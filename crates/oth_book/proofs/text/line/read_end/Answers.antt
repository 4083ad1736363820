use Rattle.std.proofs.Common.{◌≡◌, sym, ap, ◌∙◌, arith, length, ◌∷◌, ◌++◌, drop}
use Rattle.oth_book.specs.Numeral.{numeral}
use Rattle.oth_book.proofs.LineLemmas.{part, length-part, end_number, end_parts, end_line-append}
use Rattle.oth_book.proofs.text.line.read_end.Goals as goal

pub read_numeral-requires-clause-digits : goal.read_numeral-requires-clause-digits
read_numeral-requires-clause-digits c = rw c.part.ensures (end_number c.args.line.now c.requires)

pub returns-clause-line : goal.returns-clause-line
returns-clause-line c =
    let len : length (part 4 6 c.args.line.now) ≡ 6 = length-part 4 6 c.args.line.now (omega (arith, c.requires.len)) in
    let text = rw c.part.ensures at c.read_numeral.ensures.text in
    end_parts c.args.line.now c.requires
    ∙ ap (λ xs. 69 ∷ 78 ∷ 68 ∷ 32 ∷ (xs ++ (10 ∷ drop 11 c.args.line.now))) (text ∙ ap (λ n. numeral 10 n c.read_numeral.result) len)
    ∙ sym (end_line-append c.read_numeral.result (drop 11 c.args.line.now))
