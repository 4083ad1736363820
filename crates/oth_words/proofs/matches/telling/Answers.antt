use Rattle.std.proofs.Common.{ap₂}
use Rattle.oth_words.specs.declared.settings.Telling.{Telling}
use Rattle.oth_words.proofs.matches.telling.Goals as goal

pub returns : goal.returns
returns c = ap₂ (λ explains is_strict. let t : Telling = record { explains = explains; is_strict = is_strict } in t) c.is_given.ensures c.is_given-2.ensures
