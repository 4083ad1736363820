use Rattle.std.proofs.Common.{◌≡◌, ◌∙◌, ap, ap₂}
use Rattle.std.proofs.lemmas.Result.{IfOk-weaker}
use Rattle.clap.specs.Simple.{app_of_fields}
use Rattle.clap.specs.Words.{app_of, new_app, with_rule}
use Rattle.std.specs.Prelude.{codes}
use Rattle.oth_words.proofs.commands.verify_command.Goals as goal

pub returns-clause-app : goal.returns-clause-app
returns-clause-app c =
    let titled : app_of c.after_help.result ≡ new_app (codes "book-verify") =
    ap app_of_fields c.after_help.ensures ∙ ap app_of_fields c.about.ensures ∙ c.new.ensures.app in
    let explains = c.in_ok-arg.ensures.shape c.explain_option.ensures.local ∙ ap₂ with_rule titled c.explain_option.ensures.rule in
    IfOk-weaker c.arg-2.result _ _ (λ r added. added.shape c.file_argument.ensures.local ∙ ap₂ with_rule explains c.file_argument.ensures.rule) c.arg-2.ensures
