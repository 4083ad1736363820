use Rattle.std.proofs.Common.{◌≡◌}
use Rattle.oth_pool.proofs.work.told_of.Given as goal

abbrev pub invariant-loop-duty : goal.invariant-loop-duty
invariant-loop-duty g l = (l.solved.board ≡ l.reply.solved.board) × (l.solved.scoring ≡ l.reply.solved.scoring)
