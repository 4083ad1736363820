use Rattle.std.proofs.Common.{ap₂, refl, None}
use Rattle.oth_words.specs.declared.settings.Settings.{Settings}
use Rattle.oth_rules.specs.declared.scoring.Scoring.TheVariants.{Winner}
use Rattle.oth_words.specs.CommandLine.{run}
use Rattle.oth_words.proofs.matches.plain.Goals as goal

pub returns : goal.returns
returns c =
    let settings : Settings = record { command = c.args.command; workers = 1; cells = 0; scoring = Winner } in
    (settings, refl, (refl, refl, refl), ap₂ (λ telling files. run settings telling None files) c.telling.ensures c.files.ensures)
