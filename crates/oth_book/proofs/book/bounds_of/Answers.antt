use Rattle.std.proofs.Common.{refl}
use Rattle.oth_rules.proofs.Scores.{kept}
use Rattle.oth_book.proofs.BookLemmas.{bounds_scores}
use Rattle.oth_book.proofs.book.bounds_of.Goals as goal

pub returns : goal.returns
returns c =
    let scores = bounds_scores c.args.solved.now.interval.is_interval in
    rw (kept c.args.solved.now.interval.lower scores.0, kept c.args.solved.now.interval.upper scores.1, c.canonical-image.ensures.board) refl
