use Rattle.std.proofs.Common.{◌≡◌, take}
use Rattle.oth_search.proofs.root.moves.RootMoves.copied_to.Given as goal

abbrev pub invariant-loop-root_move : goal.invariant-loop-root_move
invariant-loop-root_move l = l.list.items ≡ take l.root_move-index l.root_move-items
