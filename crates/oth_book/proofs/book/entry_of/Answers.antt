use Rattle.std.proofs.Common.{refl}
use Rattle.oth_rules.proofs.Scores.{kept}
use Rattle.oth_book.proofs.BookLemmas.{answer_true, answer_score}
use Rattle.oth_book.proofs.book.entry_of.Goals as goal

pub returns-clause-entry : goal.returns-clause-entry
returns-clause-entry c =
    let t = answer_true c.args.answer.now _ _ _ c.requires c.canonical-image.ensures.board c.canonical-image.ensures.by c.map.ensures.value in
    rw (kept c.args.answer.now.score (answer_score c.args.answer.now), c.canonical-image.ensures.board, t.1) refl

pub returns-clause-holds : goal.returns-clause-holds
returns-clause-holds c =
    let t = answer_true c.args.answer.now _ _ _ c.requires c.canonical-image.ensures.board c.canonical-image.ensures.by c.map.ensures.value in
    rw (kept c.args.answer.now.score (answer_score c.args.answer.now), c.canonical-image.ensures.board, t.1) t.0
