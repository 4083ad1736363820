use Rattle.std.proofs.Common.{take}
use Rattle.oth_search.proofs.RootLemmas.Surest.{HasSurest}
use Rattle.oth_search.proofs.root.moves.surest_of.Given as goal

abbrev pub invariant-loop-root_move : goal.invariant-loop-root_move
invariant-loop-root_move l = HasSurest (take l.root_move-index l.fn.moves) l.surest
