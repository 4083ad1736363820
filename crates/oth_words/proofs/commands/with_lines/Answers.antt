use Rattle.std.proofs.Common.{◌≡◌, ◌∙◌, ap, ap₂, false}
use Rattle.std.specs.Prelude.{◌||◌}
use Rattle.std.proofs.lemmas.Result.{IfOk-weaker}
use Rattle.clap.specs.Words.{app_of, with_rule}
use Rattle.clap.specs.declared.builder.command.Command.TheViews.{out-Command}
use Rattle.oth_words.proofs.commands.with_lines.Goals as goal

pub returns-clause-app : goal.returns-clause-app
returns-clause-app c =
    let explains = c.in_ok-arg.ensures.shape c.explain_option.ensures.local ∙ ap (with_rule (app_of c.args.command)) c.explain_option.ensures.rule in
    let strict = c.in_ok-arg-2.ensures.shape c.strict_option.ensures.local ∙ ap₂ with_rule explains c.strict_option.ensures.rule in
    IfOk-weaker c.arg-3.result _ _ (λ r added. added.shape c.files_argument.ensures.local ∙ ap₂ with_rule strict c.files_argument.ensures.rule) c.arg-3.ensures

pub returns-clause-local : goal.returns-clause-local
returns-clause-local c =
    let explains : (out-Command c.in_ok-arg.field-0).has_globals ≡ false =
    c.in_ok-arg.ensures.globals ∙ ap₂ ◌||◌ c.requires c.explain_option.ensures.local in
    let strict : (out-Command c.in_ok-arg-2.field-0).has_globals ≡ false =
    c.in_ok-arg-2.ensures.globals ∙ ap₂ ◌||◌ explains c.strict_option.ensures.local in
    IfOk-weaker c.arg-3.result _ _ (λ r added. added.globals ∙ ap₂ ◌||◌ strict c.files_argument.ensures.local) c.arg-3.ensures
