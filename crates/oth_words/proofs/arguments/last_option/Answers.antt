use Rattle.std.proofs.Common.{rules}
use Rattle.oth_words.proofs.arguments.last_option.Goals as goal

pub returns-clause-rule : goal.returns-clause-rule
returns-clause-rule c = search rules

pub returns-clause-value : goal.returns-clause-value
returns-clause-value c = search rules
