use Rattle.std.proofs.Common.{◌≡◌}
use Rattle.oth_search.proofs.nws.deep.bounded_by_child.Given as goal

abbrev pub invariant-loop-child : goal.invariant-loop-child
invariant-loop-child g l = g.C.Cells.fixed l.cells ≡ g.C.Cells.fixed l.fn.cells
