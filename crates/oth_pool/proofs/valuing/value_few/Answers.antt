use Rattle.std.proofs.Common.{ap, sym, ◌∙◌}
use Rattle.oth_rules.specs.Move.{can_move}
use Rattle.oth_search.proofs.BoundsLemmas.KindLemmas.{move-can, pass-must, end-over}
use Rattle.oth_pool.proofs.valuing.value_few.Goals as goal

pub solve_few-requires : goal.solve_few-requires
solve_few-requires c = move-can c.args.by_book.now.board (sym c.in-Move.is ∙ c.of.ensures)

pub passed-requires-clause-none : goal.passed-requires-clause-none
passed-requires-clause-none c = (pass-must c.args.by_book.now.board (sym c.in-Pass.is ∙ c.of.ensures)).0

pub passed-requires-clause-some : goal.passed-requires-clause-some
passed-requires-clause-some c = (pass-must c.args.by_book.now.board (sym c.in-Pass.is ∙ c.of.ensures)).1

pub solve_few-requires-in-Pass : goal.solve_few-requires-in-Pass
solve_few-requires-in-Pass c =
    ap can_move c.passed.ensures.board ∙ (pass-must c.args.by_book.now.board (sym c.in-Pass.is ∙ c.of.ensures)).1

pub before_pass-requires-clause-none : goal.before_pass-requires-clause-none
before_pass-requires-clause-none c = (pass-must c.args.by_book.now.board (sym c.in-Pass.is ∙ c.of.ensures)).0

pub before_pass-requires-clause-some : goal.before_pass-requires-clause-some
before_pass-requires-clause-some c = (pass-must c.args.by_book.now.board (sym c.in-Pass.is ∙ c.of.ensures)).1

pub ended-requires : goal.ended-requires
ended-requires c = end-over c.args.by_book.now.board (sym c.in-End.is ∙ c.of.ensures)
