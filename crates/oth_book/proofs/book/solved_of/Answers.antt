use Rattle.oth_rules.proofs.Scores.{kept}
use Rattle.oth_book.proofs.BookLemmas.{bounds_scores, bounds_value}
use Rattle.oth_book.proofs.book.solved_of.Goals as goal

pub invariant_of-result-2 : goal.invariant_of-result-2
invariant_of-result-2 c =
    let entry = c.args.entry.now in
    let scores = bounds_scores c.requires.holds.interval in
    rw (kept entry.lower scores.0, kept entry.upper scores.1) (record { encloses = bounds_value c.args.scoring entry c.args.board.now c.requires.holds c.requires.board })
