use Rattle.std.proofs.Common.{rules}
use Rattle.oth_c.proofs.sharing.joined_at.Goals as goal

pub returns-in_default-new-clause-err : goal.returns-in_default-new-clause-err
returns-in_default-new-clause-err c = search rules
