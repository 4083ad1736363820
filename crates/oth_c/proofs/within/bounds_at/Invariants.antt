use Rattle.std.proofs.Common.{◌≢◌, All, take}
use Rattle.oth_c.proofs.within.bounds_at.Given as goal

abbrev pub invariant-loop-root_move : goal.invariant-loop-root_move
invariant-loop-root_move l = All (λ m. m.square ≢ l.number) (take l.root_move-index l.moves)
