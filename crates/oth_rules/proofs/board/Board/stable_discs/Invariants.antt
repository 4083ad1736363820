use Rattle.oth_rules.specs.Stable.{AreStable}
use Rattle.oth_rules.proofs.board.Board.stable_discs.Given as goal

-- what was found is stable
abbrev pub invariant-loop : goal.invariant-loop
invariant-loop l = AreStable l.self l.stable
