use Rattle.std.proofs.Common.{rules}
use Rattle.oth_table.proofs.choice.is_better.Goals as goal

pub returns-in-Whole-Whole : goal.returns-in-Whole-Whole
returns-in-Whole-Whole c = search rules
