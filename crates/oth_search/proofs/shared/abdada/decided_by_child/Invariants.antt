use Rattle.std.proofs.Common.{◌≡◌}
use Rattle.oth_search.proofs.shared.abdada.decided_by_child.Given as goal

abbrev pub invariant-loop-rest : goal.invariant-loop-rest
invariant-loop-rest g l = g.C.Cells.fixed l.cells ≡ g.C.Cells.fixed l.fn.cells

abbrev pub decreases-loop-rest : goal.decreases-loop-rest
decreases-loop-rest g l = l.rest
