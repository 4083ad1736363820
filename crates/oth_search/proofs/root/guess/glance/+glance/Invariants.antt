use Rattle.std.proofs.Common.{◌≡◌, ℕ, ◌+◌, ◌*◌, ◌-◌}
use Rattle.std.specs.List.{All}
use Rattle.oth_rules.specs.Laws.{IsScore, IsLegal}
use Rattle.oth_search.specs.Bounds.Squares.{In}
use Rattle.oth_search.specs.Ordering.Children.{IsChild}
use Rattle.oth_search.proofs.root.guess.glance.+glance.Given as goal

abbrev pub decreases-glance : goal.decreases-glance
decreases-glance g l = 2 * l.sight.plies + (1 - l.node.moves)

abbrev pub invariant-loop : goal.invariant-loop
invariant-loop g l = record {
  score : IsScore l.best;
  fixed : g.C.Cells.fixed l.cells ≡ g.C.Cells.fixed l.fn.cells;
  legal : (s : ℕ) → In l.left s → IsLegal l.node.board s;
  each : All (IsChild l.node.board) l.ranked.items;
}
