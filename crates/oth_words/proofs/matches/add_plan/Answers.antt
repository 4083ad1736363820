use Rattle.std.proofs.Common.{refl, sym}
use Rattle.clap.specs.Words.{found_of, rows_of}
use Rattle.oth_words.proofs.Meanings.{add_means, no_text, some_text}
use Rattle.oth_words.proofs.matches.add_plan.Goals as goal

pub returns-in_err-settings : goal.returns-in_err-settings
returns-in_err-settings c = rw c.from_residual.ensures (λ m means.
    let got = (add_means (rows_of (found_of c.args.matches.now)) m means).0 in
    c.in_err-settings.ensures got.0 got.1)

pub returns-in_err-text : goal.returns-in_err-text
returns-in_err-text c = rw c.from_residual-in_err-text.ensures (λ m means.
    let got = (add_means (rows_of (found_of c.args.matches.now)) m means).1 in
    no_text c.text.result _ got.0 c.text.ensures c.in_err-text.was got.1)

pub returns : goal.returns
returns c =
    let settings = c.in_ok-settings.ensures in
    (refl, settings.0, settings.1, settings.2, some_text c.text.result _ c.in_ok-text.field-0 c.text.ensures c.in_ok-text.was, sym c.telling.ensures)
