use Rattle.std.proofs.Common.{rules}
use Rattle.oth_pool.proofs.solving.raised_floor.Goals as goal

pub returns-clause-raised : goal.returns-clause-raised
returns-clause-raised c = search rules
