use Rattle.std.proofs.Common.{◌≡◌}
use Rattle.oth_search.proofs.root.settle.ask_in_rounds.Given as goal

abbrev pub invariant-loop : goal.invariant-loop
invariant-loop g l = (l.moves ≡ l.fn.moves) × (g.C.Cells.fixed l.cells ≡ g.C.Cells.fixed l.fn.cells)

abbrev pub invariant-loop-place : goal.invariant-loop-place
invariant-loop-place g l = (l.moves ≡ l.fn.moves) × (g.C.Cells.fixed l.cells ≡ g.C.Cells.fixed l.fn.cells)
