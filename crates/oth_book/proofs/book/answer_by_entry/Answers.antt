use Rattle.std.proofs.Common.{◌∙◌}
use Rattle.oth_rules.proofs.Scores.{kept}
use Rattle.oth_book.proofs.BookLemmas.{bounds_scores, exact_value, exact_best}
use Rattle.oth_book.proofs.book.answer_by_entry.Goals as goal

pub invariant_of-result : goal.invariant_of-result
invariant_of-result c =
    let entry = c.args.entry.now in
    let scores = bounds_scores c.requires.holds.interval in
    record {
      is_value = kept entry.lower scores.0 ∙ exact_value c.args.scoring entry c.args.board.now c.args.symmetry c.requires.holds c.requires.exact c.requires.image c.requires.valid;
      are_best = c.unmap.ensures.value ∙ exact_best c.args.scoring entry c.args.board.now c.args.symmetry c.requires.holds c.requires.exact c.requires.image c.requires.valid;
      fits = c.of.ensures;
    }
