use Rattle.std.proofs.Common.{rules}
use Rattle.oth_c.proofs.texts.lines.line_fault.Goals as goal

pub returns-in-Space-clause-code : goal.returns-in-Space-clause-code
returns-in-Space-clause-code c = search rules

pub returns-in-BadCell-clause-place : goal.returns-in-BadCell-clause-place
returns-in-BadCell-clause-place c = search rules
