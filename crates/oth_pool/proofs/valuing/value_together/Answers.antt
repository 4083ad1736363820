use Rattle.std.proofs.Common.{ap, sym, ◌∙◌, arith}
use Rattle.oth_rules.specs.Position.{empty_count}
use Rattle.oth_rules.specs.Move.{can_move}
use Rattle.oth_rules.proofs.SearchLaws.{empty_count-pass}
use Rattle.oth_search.proofs.BoundsLemmas.KindLemmas.{move-can, pass-must, end-over}
use Rattle.oth_pool.proofs.valuing.value_together.Goals as goal

pub answer_over-requires-clause-some : goal.answer_over-requires-clause-some
answer_over-requires-clause-some g c = λ κs within. move-can c.args.by_book.now.board (sym c.in-Move.is ∙ c.of.ensures)

pub passed-requires-clause-none : goal.passed-requires-clause-none
passed-requires-clause-none g c = (pass-must c.args.by_book.now.board (sym c.in-Pass.is ∙ c.of.ensures)).0

pub passed-requires-clause-some : goal.passed-requires-clause-some
passed-requires-clause-some g c = (pass-must c.args.by_book.now.board (sym c.in-Pass.is ∙ c.of.ensures)).1

pub answer_over-answer-requires-clause-some : goal.answer_over-answer-requires-clause-some
answer_over-answer-requires-clause-some g c = λ κs within.
    ap can_move c.passed.ensures.board ∙ (pass-must c.args.by_book.now.board (sym c.in-Pass.is ∙ c.of.ensures)).1

pub answer_over-answer-requires-clause-few : goal.answer_over-answer-requires-clause-few
answer_over-answer-requires-clause-few g c = omega (arith, c.requires, ap empty_count c.passed.ensures.board, empty_count-pass c.args.by_book.now.board)

pub before_pass-requires-clause-none : goal.before_pass-requires-clause-none
before_pass-requires-clause-none g c = (pass-must c.args.by_book.now.board (sym c.in-Pass.is ∙ c.of.ensures)).0

pub before_pass-requires-clause-some : goal.before_pass-requires-clause-some
before_pass-requires-clause-some g c = (pass-must c.args.by_book.now.board (sym c.in-Pass.is ∙ c.of.ensures)).1

pub ended-requires : goal.ended-requires
ended-requires g c = end-over c.args.by_book.now.board (sym c.in-End.is ∙ c.of.ensures)
