use Rattle.oth_search.specs.Bounds.Squares.{In}
use Rattle.oth_search.proofs.RootLemmas.Roots.{RootLoop}
use Rattle.oth_search.proofs.root.few.solve_few.Given as goal

abbrev pub invariant-loop-left : goal.invariant-loop-left
invariant-loop-left l = RootLoop l.scoring l.board (In l.left) l.best.score l.best.moves

abbrev pub decreases-loop-left : goal.decreases-loop-left
decreases-loop-left l = l.left
