use Rattle.std.proofs.Common.{◌+◌, ◌*◌}
use Rattle.oth_rules.specs.Position.{empty_count}
use Rattle.oth_search.specs.Bounds.Squares.{In}
use Rattle.oth_search.proofs.BoundsLemmas.Replies.{ReplyLoop}
use Rattle.oth_search.proofs.nws.shallow.+nws.Given as goal

abbrev pub decreases-nws_at : goal.decreases-nws_at
decreases-nws_at l = 2 * empty_count l.board + 1

abbrev pub decreases-nws_moves : goal.decreases-nws_moves
decreases-nws_moves l = 2 * empty_count l.board

abbrev pub invariant-nws_moves-loop-rest : goal.invariant-nws_moves-loop-rest
invariant-nws_moves-loop-rest l = ReplyLoop l.scoring l.board l.fn.alpha (In l.rest) l.best

abbrev pub decreases-nws_moves-loop-rest : goal.decreases-nws_moves-loop-rest
decreases-nws_moves-loop-rest l = l.rest
