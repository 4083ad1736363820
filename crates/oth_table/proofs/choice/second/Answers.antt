use Rattle.std.proofs.Common.{arith, rules}
use Rattle.oth_table.proofs.Choices.{neighbour_inside}
use Rattle.oth_table.proofs.choice.second.Goals as goal

pub returns-then-first-eq0-clause-inside : goal.returns-then-first-eq0-clause-inside
returns-then-first-eq0-clause-inside c =
    neighbour_inside c.args.cells c.place-first.result c.requires.cells (λ e. omega (arith, c.if-cells-eq1.false)) (omega (arith, c.if-first-eq0.true)) c.place-first.ensures.inside

pub returns-else-first-eq0-clause-place : goal.returns-else-first-eq0-clause-place
returns-else-first-eq0-clause-place c = search rules
