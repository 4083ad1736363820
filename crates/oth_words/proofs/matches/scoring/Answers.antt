use Rattle.std.proofs.Common.{◌∙◌, ap, Some}
use Rattle.oth_words.proofs.Meanings.{no_text, not_scoring, some_text}
use Rattle.oth_words.specs.CommandLine.{scoring_word}
use Rattle.oth_words.proofs.matches.scoring.Goals as goal

pub returns-in_err-text : goal.returns-in_err-text
returns-in_err-text c = rw c.from_residual.ensures (λ s is. no_text c.text.result _ (scoring_word s) c.text.ensures c.in_err-text.was is)

pub returns-in-winner : goal.returns-in-winner
returns-in-winner c = some_text c.text.result _ c.in_ok-text.field-0 c.text.ensures c.in_ok-text.was ∙ ap Some c.in-winner.is

pub returns-in-discs : goal.returns-in-discs
returns-in-discs c = some_text c.text.result _ c.in_ok-text.field-0 c.text.ensures c.in_ok-text.was ∙ ap Some c.in-discs.is

pub returns-in_default : goal.returns-in_default
returns-in_default c = λ s is.
    not_scoring s _ c.in_ok-text.field-0.now c.in_default.not-winner c.in_default.not-discs
    (some_text c.text.result _ c.in_ok-text.field-0 c.text.ensures c.in_ok-text.was) is
