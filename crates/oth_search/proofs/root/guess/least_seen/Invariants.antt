use Rattle.std.proofs.Common.{◌≡◌}
use Rattle.oth_rules.specs.Laws.{IsScore}
use Rattle.oth_search.proofs.root.guess.least_seen.Given as goal

abbrev pub invariant-loop-turn : goal.invariant-loop-turn
invariant-loop-turn g l = IsScore l.least × (l.moves ≡ l.fn.moves) × (g.C.Cells.fixed l.cells ≡ g.C.Cells.fixed l.fn.cells)

abbrev pub invariant-loop-place : goal.invariant-loop-place
invariant-loop-place g l = IsScore l.least × (l.moves ≡ l.fn.moves) × (g.C.Cells.fixed l.cells ≡ g.C.Cells.fixed l.fn.cells)
