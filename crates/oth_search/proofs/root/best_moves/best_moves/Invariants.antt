use Rattle.std.proofs.Common.{◌≡◌, map}
use Rattle.oth_search.specs.Root.Moves.{square_of}
use Rattle.oth_search.proofs.BoundsLemmas.SquareSets.{FromPlace}
use Rattle.oth_search.proofs.RootLemmas.Roots.{RootLoop}
use Rattle.oth_search.proofs.root.best_moves.best_moves.Given as goal

abbrev pub invariant-loop-root_move : goal.invariant-loop-root_move
invariant-loop-root_move g l =
    RootLoop l.root.scoring l.root.board (FromPlace (map square_of l.root_move-items) l.root_move-index) l.best.score l.best.moves
    × (g.C.Cells.fixed l.cells ≡ g.C.Cells.fixed l.fn.cells)
