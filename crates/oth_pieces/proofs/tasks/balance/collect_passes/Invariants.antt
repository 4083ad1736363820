use Rattle.oth_pieces.proofs.Settlings.{Gathering}
use Rattle.oth_pieces.proofs.tasks.balance.collect_passes.Given as goal

abbrev pub invariant-loop-i : goal.invariant-loop-i
invariant-loop-i l = Gathering l.initial.owner l.initial.piles l.owner l.piles l.i
