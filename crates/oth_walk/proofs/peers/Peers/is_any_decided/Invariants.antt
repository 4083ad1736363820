use Rattle.std.proofs.Common.{◌≡◌}
use Rattle.oth_walk.proofs.peers.Peers.is_any_decided.Given as goal

abbrev pub invariant-loop-place : goal.invariant-loop-place
invariant-loop-place g l = g.C.Cells.fixed l.cells ≡ g.C.Cells.fixed l.fn.cells
