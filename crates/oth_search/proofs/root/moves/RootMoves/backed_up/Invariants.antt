use Rattle.std.proofs.Common.{map}
use Rattle.oth_search.specs.Root.Moves.{square_of}
use Rattle.oth_search.proofs.BoundsLemmas.SquareSets.{FromPlace}
use Rattle.oth_search.proofs.BoundsLemmas.Enclosing.{MovesLoop}
use Rattle.oth_search.proofs.root.moves.RootMoves.backed_up.Given as goal

abbrev pub invariant-loop-root_move : goal.invariant-loop-root_move
invariant-loop-root_move l = MovesLoop l.self-inside.root.scoring l.self-inside.root.board (FromPlace (map square_of l.self-inside.list.items) l.root_move-index) l.lower l.upper
