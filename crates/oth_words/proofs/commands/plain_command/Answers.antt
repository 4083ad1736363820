use Rattle.std.proofs.Common.{◌∙◌, ap}
use Rattle.std.proofs.lemmas.Result.{IfOk-weaker}
use Rattle.oth_words.specs.CommandLine.{lines_app}
use Rattle.oth_words.proofs.commands.plain_command.Goals as goal

pub returns-clause-app : goal.returns-clause-app
returns-clause-app c = IfOk-weaker c.with_lines.result _ _ (λ r lines. lines ∙ ap lines_app c.titled_command-titled.ensures.app) c.with_lines.ensures.app
