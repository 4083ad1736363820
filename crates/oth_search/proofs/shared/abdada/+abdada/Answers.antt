use Rattle.std.proofs.Common.{refl, sym, ◌∙◌, rules}
use Rattle.oth_rules.proofs.SearchLaws.{is_over-false}
use Rattle.oth_search.proofs.BoundsLemmas.Replies.{can_move-after_pass}
use Rattle.oth_search.proofs.shared.abdada.+abdada.Goals as goal

pub abdada-before_pass-requires-clause-some : goal.abdada-before_pass-requires-clause-some
abdada-before_pass-requires-clause-some g t c =
    can_move-after_pass c.args.asked.now.board _ refl (sym c.can_move.ensures ∙ c.if-not-can_move.true)
    (is_over-false c.args.asked.now.board (sym c.is_over.ensures ∙ c.if-is_over.false))

pub abdada-returns-then-not-can_move-clause-board : goal.abdada-returns-then-not-can_move-clause-board
abdada-returns-then-not-can_move-clause-board g t c = search rules
