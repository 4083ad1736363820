use Rattle.std.proofs.Common.{◌≡◌}
use Rattle.std.specs.Prelude.{unsigned_abs, ◌-ℤ◌}
use Rattle.oth_search.proofs.bounds.solved.Solved.exact.Given as goal

abbrev pub invariant-loop-reply : goal.invariant-loop-reply
invariant-loop-reply g l = (l.reply.board ≡ l.self.board) × (l.reply.scoring ≡ l.self.scoring) × (g.C.Cells.fixed l.cells ≡ g.C.Cells.fixed l.fn.cells)

abbrev pub decreases-loop-reply : goal.decreases-loop-reply
decreases-loop-reply g l = unsigned_abs (l.reply.interval.upper -ℤ l.reply.interval.lower)
