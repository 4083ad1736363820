use Rattle.std.proofs.Common.{refl}
use Rattle.std.proofs.lemmas.Result.{on_ok_weaker}
use Rattle.oth_book.specs.Contents.{scoring_of}
use Rattle.oth_book.proofs.claims.check_text.Goals as goal

pub returns-clause-text : goal.returns-clause-text
returns-clause-text c =
    let v = c.in_ok-version.version in
    on_ok_weaker c.check_entries.result
    (λ t. (record { scoring = scoring_of v; entries = t.0 }, record { version = v; scoring = refl; text = t.1 }))
    c.check_entries.ensures.text
