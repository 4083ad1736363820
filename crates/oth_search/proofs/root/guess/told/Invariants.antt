use Rattle.std.proofs.Common.{◌≡◌}
use Rattle.oth_search.proofs.root.guess.told.Given as goal

abbrev pub invariant-loop-place : goal.invariant-loop-place
invariant-loop-place g l = l.moves ≡ l.fn.moves
