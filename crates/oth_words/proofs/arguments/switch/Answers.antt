use Rattle.std.proofs.Common.{rules}
use Rattle.oth_words.proofs.arguments.switch.Goals as goal

pub returns-clause-rule : goal.returns-clause-rule
returns-clause-rule c = search rules
