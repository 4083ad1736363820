use Rattle.std.proofs.Common.{◌≡◌}
use Rattle.std.specs.List.{All}
use Rattle.oth_search.specs.Bounds.Squares.{In}
use Rattle.oth_search.specs.Ordering.Children.{IsChild}
use Rattle.oth_search.proofs.BoundsLemmas.Replies.{ReplyLoop}
use Rattle.oth_search.proofs.nws.heard.nws_heard_moves.Given as goal

abbrev pub invariant-loop-left : goal.invariant-loop-left
invariant-loop-left g l = record {
  loop : ReplyLoop l.scoring l.node.board l.fn.alpha (In l.left) l.best;
  fixed : g.C.Cells.fixed l.cells ≡ g.C.Cells.fixed l.fn.cells;
  each : All (IsChild l.node.board) l.list.items;
}

abbrev pub decreases-loop-left : goal.decreases-loop-left
decreases-loop-left g l = l.left
