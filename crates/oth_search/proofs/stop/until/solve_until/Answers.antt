use Rattle.std.proofs.Common.{sym, ◌∙◌}
use Rattle.oth_search.proofs.BoundsLemmas.KindLemmas.{move-can, pass-must, end-over}
use Rattle.oth_search.proofs.stop.until.solve_until.Goals as goal

pub solve_moves_until-requires : goal.solve_moves_until-requires
solve_moves_until-requires g c = move-can c.args.board.now (sym c.in-Move.is ∙ c.of.ensures)

pub solve_past_until-requires-clause-none : goal.solve_past_until-requires-clause-none
solve_past_until-requires-clause-none g c = (pass-must c.args.board.now (sym c.in-Pass.is ∙ c.of.ensures)).0

pub solve_past_until-requires-clause-some : goal.solve_past_until-requires-clause-some
solve_past_until-requires-clause-some g c = (pass-must c.args.board.now (sym c.in-Pass.is ∙ c.of.ensures)).1

pub ended-requires : goal.ended-requires
ended-requires g c = end-over c.args.board.now (sym c.in-End.is ∙ c.of.ensures)
