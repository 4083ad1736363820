use Rattle.std.proofs.Common.{◌≡◌, ◌∙◌, ap, ap₂, false}
use Rattle.std.specs.Prelude.{◌||◌}
use Rattle.std.proofs.lemmas.Result.{IfOk-weaker}
use Rattle.clap.specs.Words.{App, with_rule}
use Rattle.clap.specs.declared.builder.command.Command.TheViews.{out-Command}
use Rattle.oth_words.specs.CommandLine.{lines_app, searcher_app}
use Rattle.oth_words.proofs.commands.solve_command.Goals as goal

pub returns-clause-app : goal.returns-clause-app
returns-clause-app c =
    let searcher = c.in_ok-searcher.ensures.app ∙ ap (λ (a : App). searcher_app a c.args.scorings) c.titled_command-solve.ensures.app in
    let asks = c.in_ok-arg.ensures.shape c.book_option.ensures.local ∙ ap₂ with_rule searcher c.book_option.ensures.rule in
    IfOk-weaker c.with_lines.result _ _ (λ r lines. lines ∙ ap lines_app asks) c.with_lines.ensures.app

pub returns-clause-local : goal.returns-clause-local
returns-clause-local c = c.with_lines.ensures.local

pub with_lines-requires : goal.with_lines-requires
with_lines-requires c = c.in_ok-arg.ensures.globals ∙ ap₂ ◌||◌ c.in_ok-searcher.ensures.local c.book_option.ensures.local
