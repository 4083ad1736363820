use Rattle.std.proofs.Common.{◌≢◌, All, take}
use Rattle.oth_c.proofs.scores.score_at.Given as goal

abbrev pub invariant-loop-scored : goal.invariant-loop-scored
invariant-loop-scored l = All (λ m. m.square ≢ l.number) (take l.scored-index l.moves)
