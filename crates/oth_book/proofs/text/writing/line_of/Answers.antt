use Rattle.std.proofs.Common.{refl}
use Rattle.oth_rules.proofs.Scores.{kept}
use Rattle.oth_book.proofs.BookLemmas.{bounds_scores}
use Rattle.oth_book.proofs.WriteLemmas.{line_parts}
use Rattle.oth_book.proofs.text.writing.line_of.Goals as goal

pub returns : goal.returns
returns c =
    let scores = bounds_scores c.requires in
    let first = rw (kept c.args.entry.now.lower scores.0) at c.push_bound.ensures.text in
    let second = rw (kept c.args.entry.now.upper scores.1) at c.push_bound-2.ensures.text in
    λ g. line_parts g c.args.entry.now _
    (rw (c.push-4.ensures.items, c.push_numeral.ensures.digits, c.push-3.ensures.items, second, c.push-2.ensures.items, first, c.push.ensures.items, c.push_cells.ensures.cells) refl)
