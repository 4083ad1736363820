use Rattle.std.proofs.Common.{ap, sym, ◌∙◌, rules}
use Rattle.oth_rules.specs.Move.{can_move}
use Rattle.oth_search.proofs.BoundsLemmas.KindLemmas.{move-can, pass-must, end-over}
use Rattle.oth_search.proofs.root.best_moves.solve_with.Goals as goal

pub solve_unobserved-requires : goal.solve_unobserved-requires
solve_unobserved-requires g c = move-can c.args.board (sym c.in-Move.is ∙ c.of.ensures)

pub solve_unobserved-passed-requires : goal.solve_unobserved-passed-requires
solve_unobserved-passed-requires g c = ap can_move c.pass.ensures ∙ (pass-must c.args.board (sym c.in-Pass.is ∙ c.of.ensures)).1

pub before_pass-requires-clause-none : goal.before_pass-requires-clause-none
before_pass-requires-clause-none g c = (pass-must c.args.board (sym c.in-Pass.is ∙ c.of.ensures)).0

pub before_pass-requires-clause-some : goal.before_pass-requires-clause-some
before_pass-requires-clause-some g c = (pass-must c.args.board (sym c.in-Pass.is ∙ c.of.ensures)).1

pub before_pass-requires-clause-passed : goal.before_pass-requires-clause-passed
before_pass-requires-clause-passed g c = search rules

pub ended-requires : goal.ended-requires
ended-requires g c = end-over c.args.board (sym c.in-End.is ∙ c.of.ensures)
