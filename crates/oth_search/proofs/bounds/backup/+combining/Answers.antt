use Rattle.std.proofs.Common.{ap, sym, ◌∙◌, arith}
use Rattle.oth_rules.specs.Move.{can_move}
use Rattle.oth_search.proofs.BoundsLemmas.KindLemmas.{move-can, pass-must}
use Rattle.oth_search.proofs.bounds.backup.+combining.Goals as goal

pub backed_up_from-known_by_moves-requires : goal.backed_up_from-known_by_moves-requires
backed_up_from-known_by_moves-requires t c =
    (omega (arith, c.decreases), move-can c.args.board (sym c.in-Move.is ∙ c.of.ensures))

pub backed_up_from-known_by_moves-requires-in-Pass : goal.backed_up_from-known_by_moves-requires-in-Pass
backed_up_from-known_by_moves-requires-in-Pass t c =
    (omega (arith, c.decreases), ap can_move c.pass.ensures ∙ (pass-must c.args.board (sym c.in-Pass.is ∙ c.of.ensures)).1)

pub backed_up_from-before_pass-requires-clause-none : goal.backed_up_from-before_pass-requires-clause-none
backed_up_from-before_pass-requires-clause-none t c = (pass-must c.args.board (sym c.in-Pass.is ∙ c.of.ensures)).0

pub backed_up_from-before_pass-requires-clause-some : goal.backed_up_from-before_pass-requires-clause-some
backed_up_from-before_pass-requires-clause-some t c = (pass-must c.args.board (sym c.in-Pass.is ∙ c.of.ensures)).1

pub known_by_moves-play_legal-child-requires : goal.known_by_moves-play_legal-child-requires
known_by_moves-play_legal-child-requires t c = c.loop-backed_up.backed_up.backed_up.legal _ c.first-square.ensures.member
