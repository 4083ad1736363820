use Rattle.std.proofs.Common.{rules}
use Rattle.oth_c.proofs.texts.position.OthPosition.position.Goals as goal

pub returns-clause-ok : goal.returns-clause-ok
returns-clause-ok c = search rules
