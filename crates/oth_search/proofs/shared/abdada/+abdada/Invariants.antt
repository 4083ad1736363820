use Rattle.std.proofs.Common.{◌≡◌, ◌+◌, ◌*◌}
use Rattle.oth_search.proofs.shared.abdada.+abdada.Given as goal

abbrev pub decreases-abdada : goal.decreases-abdada
decreases-abdada g l = 3 * l.plies

abbrev pub decreases-abdada_moves : goal.decreases-abdada_moves
decreases-abdada_moves g l = 3 * l.plies + 2

abbrev pub decreases-visit : goal.decreases-visit
decreases-visit g l = 3 * l.plies + 1

abbrev pub invariant-abdada_moves-loop-round : goal.invariant-abdada_moves-loop-round
invariant-abdada_moves-loop-round g l = record {
  board : l.node.searched.board ≡ l.fn.asked.board;
  scoring : l.node.searched.scoring ≡ l.fn.asked.scoring;
  fixed : g.C.Cells.fixed l.cells ≡ g.C.Cells.fixed l.fn.cells;
}

abbrev pub invariant-abdada_moves-loop-square : goal.invariant-abdada_moves-loop-square
invariant-abdada_moves-loop-square g l = record {
  board : l.node.searched.board ≡ l.fn.asked.board;
  scoring : l.node.searched.scoring ≡ l.fn.asked.scoring;
  fixed : g.C.Cells.fixed l.cells ≡ g.C.Cells.fixed l.fn.cells;
}
