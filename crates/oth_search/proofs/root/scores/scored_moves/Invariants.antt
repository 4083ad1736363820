use Rattle.std.proofs.Common.{◌≡◌, ◌++◌, All, map}
use Rattle.std.specs.Prelude.{filter}
use Rattle.oth_rules.specs.Square.{has, squares}
use Rattle.oth_rules.specs.Move.{legal_squares}
use Rattle.oth_search.specs.Root.Scores.{place_of, IsScored}
use Rattle.oth_search.proofs.root.scores.scored_moves.Given as goal

abbrev pub invariant-loop-rest : goal.invariant-loop-rest
invariant-loop-rest g l = record {
  listed : map place_of l.found.items ++ filter (has l.rest) squares
      ≡ legal_squares l.board;
  scores : All (IsScored l.board l.scoring) l.found.items;
  same : g.C.Cells.fixed l.cells
      ≡ g.C.Cells.fixed l.fn.cells;
}

abbrev pub decreases-loop-rest : goal.decreases-loop-rest
decreases-loop-rest g l = l.rest
