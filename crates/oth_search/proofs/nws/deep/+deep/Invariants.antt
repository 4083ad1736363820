use Rattle.std.proofs.Common.{◌≡◌, ◌+◌, ◌*◌}
use Rattle.std.specs.List.{All}
use Rattle.oth_rules.specs.Position.{empty_count}
use Rattle.oth_search.specs.Bounds.Squares.{In}
use Rattle.oth_search.specs.Ordering.Children.{IsChild}
use Rattle.oth_search.proofs.BoundsLemmas.Replies.{ReplyLoop}
use Rattle.oth_search.proofs.nws.deep.+deep.Given as goal

abbrev pub decreases-nws_node : goal.decreases-nws_node
decreases-nws_node g l = 7 * empty_count l.node.board + 6

abbrev pub decreases-nws_kept : goal.decreases-nws_kept
decreases-nws_kept g l = 7 * empty_count l.node.board + 5

abbrev pub decreases-nws_remembered : goal.decreases-nws_remembered
decreases-nws_remembered g l = 7 * empty_count l.node.board + 4

abbrev pub decreases-nws_ordered : goal.decreases-nws_ordered
decreases-nws_ordered g l = 7 * empty_count l.node.board + 3

abbrev pub decreases-nws_short : goal.decreases-nws_short
decreases-nws_short g l = 7 * empty_count l.node.board + 2

abbrev pub decreases-nws_middle : goal.decreases-nws_middle
decreases-nws_middle g l = 7 * empty_count l.node.board + 2

abbrev pub decreases-nws_long : goal.decreases-nws_long
decreases-nws_long g l = 7 * empty_count l.node.board + 2

abbrev pub decreases-nws_children : goal.decreases-nws_children
decreases-nws_children g l = 7 * empty_count l.node.board

abbrev pub invariant-nws_children-loop-left : goal.invariant-nws_children-loop-left
invariant-nws_children-loop-left g l = record {
  loop : ReplyLoop l.scoring l.node.board l.fn.alpha (In l.left) l.best;
  fixed : g.C.Cells.fixed l.cells ≡ g.C.Cells.fixed l.fn.cells;
  each : All (IsChild l.node.board) l.children;
}

abbrev pub decreases-nws_children-loop-left : goal.decreases-nws_children-loop-left
decreases-nws_children-loop-left g l = l.left

abbrev pub decreases-nws_by_keys : goal.decreases-nws_by_keys
decreases-nws_by_keys g l = 7 * empty_count l.keyed.now.node.board

abbrev pub invariant-nws_by_keys-loop-left : goal.invariant-nws_by_keys-loop-left
invariant-nws_by_keys-loop-left g l = record {
  loop : ReplyLoop l.scoring l.parent.board l.fn.alpha (In l.left) l.best;
  fixed : g.C.Cells.fixed l.cells ≡ g.C.Cells.fixed l.fn.cells;
}

abbrev pub decreases-nws_by_keys-loop-left : goal.decreases-nws_by_keys-loop-left
decreases-nws_by_keys-loop-left g l = l.left
