use Rattle.std.proofs.Common.{arith}
use Rattle.oth_rules.specs.Exchange.{mirrored_square}
use Rattle.oth_rules.proofs.Exchanges.{kept_if}
use Rattle.oth_rules.proofs.sym.mirrored_if.Goals as goal

pub returns-else-yes : goal.returns-else-yes
returns-else-yes c = kept_if c.args.word c.args.yes mirrored_square c.if-yes.false (omega arith)
