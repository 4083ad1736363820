use Rattle.std.proofs.Common.{◌≡◌}
use Rattle.oth_search.proofs.root.settle.settle.Given as goal

abbrev pub invariant-loop-place : goal.invariant-loop-place
invariant-loop-place g l = (l.moves ≡ l.fn.moves) × (g.C.Cells.fixed l.cells ≡ g.C.Cells.fixed l.fn.cells)
