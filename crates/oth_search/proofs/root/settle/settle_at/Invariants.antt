use Rattle.std.proofs.Common.{◌≡◌}
use Rattle.oth_search.proofs.root.settle.settle_at.Given as goal

abbrev pub invariant-loop : goal.invariant-loop
invariant-loop g l = (l.moves ≡ l.fn.moves) × (g.C.Cells.fixed l.cells ≡ g.C.Cells.fixed l.fn.cells)
