use Rattle.std.proofs.Common.{◌≡◌}
use Rattle.std.specs.Prelude.{unsigned_abs, ◌-ℤ◌}
use Rattle.oth_search.proofs.root.few.at_most.Given as goal

abbrev pub invariant-loop-pace : goal.invariant-loop-pace
invariant-loop-pace l = (l.reply.board ≡ l.fn.board) × (l.reply.scoring ≡ l.fn.scoring)

abbrev pub decreases-loop-pace : goal.decreases-loop-pace
decreases-loop-pace l = unsigned_abs (l.reply.interval.upper -ℤ l.reply.interval.lower)
