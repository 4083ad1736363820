use Rattle.std.proofs.Common.{◌≡◌, ℕ}
use Rattle.std.specs.List.{All}
use Rattle.oth_rules.specs.Laws.{IsScore, IsLegal}
use Rattle.oth_search.specs.Bounds.Squares.{In}
use Rattle.oth_search.specs.Ordering.Children.{IsChild}
use Rattle.oth_search.proofs.root.guess.glance_at_all_moves.Given as goal

abbrev pub invariant-loop-turn : goal.invariant-loop-turn
invariant-loop-turn g l = record {
  score : IsScore l.best;
  fixed : g.C.Cells.fixed l.cells ≡ g.C.Cells.fixed l.fn.cells;
  legal : (s : ℕ) → In l.left s → IsLegal l.node.board s;
  each : All (IsChild l.node.board) l.ranked.items;
}

abbrev pub invariant-loop-rest : goal.invariant-loop-rest
invariant-loop-rest g l = record {
  score : IsScore l.best;
  fixed : g.C.Cells.fixed l.cells ≡ g.C.Cells.fixed l.fn.cells;
  legal : (s : ℕ) → In l.left s → IsLegal l.node.board s;
  each : All (IsChild l.node.board) l.ranked.items;
  among : (s : ℕ) → In l.rest s → In l.left s;
}

abbrev pub decreases-loop-rest : goal.decreases-loop-rest
decreases-loop-rest g l = l.rest
