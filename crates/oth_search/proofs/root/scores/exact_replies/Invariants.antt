use Rattle.std.proofs.Common.{◌≡◌, ◌≤◌, length}
use Rattle.oth_search.proofs.root.scores.exact_replies.Given as goal

abbrev pub invariant-loop-root_move : goal.invariant-loop-root_move
invariant-loop-root_move g l = (length l.replies.items ≤ l.root_move-index) × (g.C.Cells.fixed l.cells ≡ g.C.Cells.fixed l.fn.cells)
