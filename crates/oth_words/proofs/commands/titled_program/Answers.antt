use Rattle.std.proofs.Common.{rules}
use Rattle.oth_words.proofs.commands.titled_program.Goals as goal

pub returns-clause-app : goal.returns-clause-app
returns-clause-app c = search rules
