use Rattle.std.proofs.Common.{rules}
use Rattle.oth_c.proofs.seated.Seated.solve.Goals as goal

pub returns-clause-full : goal.returns-clause-full
returns-clause-full c = search rules
