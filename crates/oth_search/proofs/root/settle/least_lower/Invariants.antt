use Rattle.oth_rules.specs.Laws.{IsScore}
use Rattle.oth_search.proofs.root.settle.least_lower.Given as goal

abbrev pub invariant-loop-root_move : goal.invariant-loop-root_move
invariant-loop-root_move l = IsScore l.least
