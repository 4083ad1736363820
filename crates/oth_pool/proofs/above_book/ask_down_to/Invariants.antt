use Rattle.std.proofs.Common.{◌≡◌}
use Rattle.oth_pool.proofs.above_book.ask_down_to.Given as goal

abbrev pub invariant-loop-above : goal.invariant-loop-above
invariant-loop-above g l = (l.higher.moves ≡ l.fn.higher.moves) × (g.C.Cells.fixed l.cells ≡ g.C.Cells.fixed l.fn.cells)

abbrev pub invariant-loop-place : goal.invariant-loop-place
invariant-loop-place g l = (l.higher.moves ≡ l.fn.higher.moves) × (g.C.Cells.fixed l.cells ≡ g.C.Cells.fixed l.fn.cells)
