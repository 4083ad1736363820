use Rattle.std.proofs.Common.{refl, sym}
use Rattle.clap.specs.Words.{found_of, rows_of}
use Rattle.oth_words.proofs.Meanings.{no_text, some_text, verify_means}
use Rattle.oth_words.proofs.matches.verify_plan.Goals as goal

pub returns-in_err-text : goal.returns-in_err-text
returns-in_err-text c = rw c.from_residual.ensures (λ m means.
    let got = verify_means (rows_of (found_of c.args.matches.now)) m means in
    no_text c.text.result _ got.0 c.text.ensures c.in_err-text.was got.1)

pub returns : goal.returns
returns c = (refl, some_text c.text.result _ c.in_ok-text.field-0 c.text.ensures c.in_ok-text.was, sym c.telling.ensures)
