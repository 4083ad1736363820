-- The numbers by which the host names the scorings.
--     scoring_of n      by 0 the squares that stay empty go to the winner, by every other number to nobody
use Rattle.std.specs.Prelude.{ℕ, ◌==◌, if◌then◌else◌}
use Rattle.oth_rules.specs.declared.scoring.Scoring.{Scoring}
use Rattle.oth_rules.specs.declared.scoring.Scoring.TheVariants.{Winner, Discs}

abbrev pub scoring_of : ℕ → Scoring
scoring_of n = if n == 0 then Winner else Discs
