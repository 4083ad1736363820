use Rattle.std.proofs.Common.{rules}
use Rattle.oth_words.proofs.arguments.file_argument.Goals as goal

pub returns-clause-value : goal.returns-clause-value
returns-clause-value c = search rules

pub returns-clause-rule : goal.returns-clause-rule
returns-clause-rule c = search rules
