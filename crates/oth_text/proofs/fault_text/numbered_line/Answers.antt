use Rattle.std.proofs.Common.{◌∙◌, arith, sym, subst}
use Rattle.oth_text.specs.OneLine.{IsOneLine}
use Rattle.oth_text.proofs.OneLineLemmas.{IsOneLine-append, IsOneLine-decimal}
use Rattle.oth_text.proofs.fault_text.numbered_line.Goals as goal

pub returns-clause-one_line : goal.returns-clause-one_line
returns-clause-one_line c =
    let digits = c.as_bytes.ensures.value ∙ c.format.ensures.text in
    let number : IsOneLine c.as_bytes.result.now = subst IsOneLine (sym digits) (IsOneLine-decimal c.args.number (omega arith)) in
    let front : IsOneLine c.push_text.new.line.items = rw (c.push_text.ensures, c.new-line.ensures) c.requires.one_line in
    rw c.push_text-2.ensures (IsOneLine-append c.push_text.new.line.items c.as_bytes.result.now front number)
