use Rattle.std.proofs.Common.{rules}
use Rattle.oth_run.proofs.line.Kept.push.Goals as goal

pub returns-in-Play : goal.returns-in-Play
returns-in-Play c = search rules
