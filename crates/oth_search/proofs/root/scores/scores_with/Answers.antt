use Rattle.oth_search.proofs.BoundsLemmas.Replies.{can_move-from_moves}
use Rattle.oth_search.proofs.root.scores.scores_with.Goals as goal

pub answer_by-answer-requires : goal.answer_by-answer-requires
answer_by-answer-requires g c = can_move-from_moves c.args.board _ c.moves.ensures c.if-moves-eq0.false
