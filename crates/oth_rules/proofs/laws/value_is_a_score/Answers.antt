use Rattle.oth_rules.proofs.Scores.{value_bounds, value_even}
use Rattle.oth_rules.proofs.laws.value_is_a_score.Goals as goal

pub returns : goal.returns
returns c = record { range = value_bounds; even = value_even }
