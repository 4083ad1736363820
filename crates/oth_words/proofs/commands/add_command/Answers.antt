use Rattle.std.proofs.Common.{◌≡◌, ◌∙◌, ap, ap₂, false, rules}
use Rattle.std.specs.Prelude.{◌||◌}
use Rattle.clap.specs.declared.builder.command.Command.TheViews.{out-Command}
use Rattle.std.proofs.lemmas.Result.{IfOk-weaker}
use Rattle.clap.specs.Simple.{app_of_fields}
use Rattle.clap.specs.Words.{app_of, new_app, with_rule}
use Rattle.std.specs.Prelude.{codes}
use Rattle.oth_words.proofs.commands.add_command.Goals as goal

pub returns-clause-app : goal.returns-clause-app
returns-clause-app c =
    let titled : app_of c.after_help.result ≡ new_app (codes "book-add") =
    ap app_of_fields c.after_help.ensures ∙ ap app_of_fields c.override_usage.ensures ∙ ap app_of_fields c.about.ensures ∙ c.new.ensures.app in
    let first = c.in_ok-arg.ensures.shape c.workers_option.ensures.local ∙ ap₂ with_rule titled c.workers_option.ensures.rule in
    let second = c.in_ok-arg-2.ensures.shape c.cells_option.ensures.local ∙ ap₂ with_rule first c.cells_option.ensures.rule in
    let third = c.in_ok-arg-3.ensures.shape c.explain_option.ensures.local ∙ ap₂ with_rule second c.explain_option.ensures.rule in
    IfOk-weaker c.arg-4.result _ _ (λ r added. added.shape c.file_argument.ensures.local ∙ ap₂ with_rule third c.file_argument.ensures.rule) c.arg-4.ensures

pub returns-clause-local : goal.returns-clause-local
returns-clause-local c =
    let fresh : (out-Command c.after_help.result).has_globals ≡ false = search rules in
    let first : (out-Command c.in_ok-arg.field-0).has_globals ≡ false = c.in_ok-arg.ensures.globals ∙ ap₂ ◌||◌ fresh c.workers_option.ensures.local in
    let second : (out-Command c.in_ok-arg-2.field-0).has_globals ≡ false = c.in_ok-arg-2.ensures.globals ∙ ap₂ ◌||◌ first c.cells_option.ensures.local in
    let third : (out-Command c.in_ok-arg-3.field-0).has_globals ≡ false = c.in_ok-arg-3.ensures.globals ∙ ap₂ ◌||◌ second c.explain_option.ensures.local in
    IfOk-weaker c.arg-4.result _ _ (λ r added. added.globals ∙ ap₂ ◌||◌ third c.file_argument.ensures.local) c.arg-4.ensures
