use Rattle.std.proofs.Common.{◌∙◌, ap}
use Rattle.std.proofs.lemmas.Result.{IfOk-weaker}
use Rattle.clap.specs.Words.{App}
use Rattle.oth_words.specs.CommandLine.{lines_app, searcher_app}
use Rattle.oth_words.proofs.commands.scores_command.Goals as goal

pub returns-clause-app : goal.returns-clause-app
returns-clause-app c =
    let searcher = c.in_ok-with_search_options.ensures.app ∙ ap (λ (a : App). searcher_app a c.args.scorings) c.titled_command-scores.ensures.app in
    IfOk-weaker c.with_lines.result _ _ (λ r lines. lines ∙ ap lines_app searcher) c.with_lines.ensures.app
