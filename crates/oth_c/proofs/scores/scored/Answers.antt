use Rattle.std.proofs.Common.{rules}
use Rattle.oth_c.proofs.scores.scored.Goals as goal

pub returns-clause-scored : goal.returns-clause-scored
returns-clause-scored c = search rules
