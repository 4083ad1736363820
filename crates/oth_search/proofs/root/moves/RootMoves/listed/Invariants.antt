use Rattle.oth_search.proofs.RootLemmas.MoveLists.{Listed}
use Rattle.oth_search.proofs.root.moves.RootMoves.listed.Given as goal

abbrev pub invariant-loop-square : goal.invariant-loop-square
invariant-loop-square l = Listed (record { board = l.root.board; scoring = l.root.scoring }) l.square-items l.square-index l.list.items
