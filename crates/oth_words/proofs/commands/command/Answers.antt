use Rattle.std.proofs.Common.{◌≡◌, ◌∙◌, ap, ap₂, true}
use Rattle.std.proofs.lemmas.Result.{IfOk-weaker}
use Rattle.clap.specs.Words.{App, app_of, with_subcommand}
use Rattle.clap.specs.Simple.{app_of_fields}
use Rattle.oth_words.specs.CommandLine.{othsolve, program}
use Rattle.oth_words.proofs.commands.command.Goals as goal

pub returns : goal.returns
unfolding othsolve
returns c =
    let top = λ (a : App). a.top in
    let program_is : app_of c.subcommand_required.result ≡ program =
    ap app_of_fields c.subcommand_required.ensures ∙ ap (λ (a : App). record a { top = record a.top { subcommand_required = true } }) c.titled_program.ensures.app in
    let first = c.in_ok-subcommand.ensures.shape c.in_ok-solve_command.ensures.local ∙ ap₂ with_subcommand program_is (ap top c.in_ok-solve_command.ensures.app) in
    let second = c.in_ok-subcommand-2.ensures.shape c.in_ok-scores_command.ensures.local ∙ ap₂ with_subcommand first (ap top c.in_ok-scores_command.ensures.app) in
    let third = c.in_ok-subcommand-3.ensures.shape c.in_ok-plain_command.ensures.local ∙ ap₂ with_subcommand second (ap top c.in_ok-plain_command.ensures.app) in
    let fourth = c.in_ok-subcommand-4.ensures.shape c.in_ok-plain_command-2.ensures.local ∙ ap₂ with_subcommand third (ap top c.in_ok-plain_command-2.ensures.app) in
    let fifth = c.in_ok-subcommand-5.ensures.shape c.in_ok-plain_command-3.ensures.local ∙ ap₂ with_subcommand fourth (ap top c.in_ok-plain_command-3.ensures.app) in
    let sixth = c.in_ok-subcommand-6.ensures.shape c.in_ok-analyse_command.ensures.local ∙ ap₂ with_subcommand fifth (ap top c.in_ok-analyse_command.ensures.app) in
    let seventh = c.in_ok-subcommand-7.ensures.shape c.in_ok-verify_command.ensures.local ∙ ap₂ with_subcommand sixth (ap top c.in_ok-verify_command.ensures.app) in
    IfOk-weaker c.subcommand-8.result _ _ (λ r added. added.shape c.in_ok-add_command.ensures.local ∙ ap₂ with_subcommand seventh (ap top c.in_ok-add_command.ensures.app)) c.subcommand-8.ensures
