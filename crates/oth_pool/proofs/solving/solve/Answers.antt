use Rattle.std.proofs.Common.{◌∙◌}
use Rattle.oth_search.proofs.BoundsLemmas.Fulls.{full_minimax}
use Rattle.oth_pool.proofs.solving.solve.Goals as goal

pub returns-clause-ok : goal.returns-clause-ok
returns-clause-ok g c =
    full_minimax c.answer.result c.args.board.now c.args.scoring (c.answer.ensures.board ∙ c.bounds_in-by_book.ensures.board)
    (c.answer.ensures.scoring ∙ c.bounds_in-by_book.ensures.scoring)
