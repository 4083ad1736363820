use Rattle.oth_rules.specs.Score.{score_of}
use Rattle.oth_rules.specs.Laws.{IsValueByMoves}
use Rattle.oth_rules.specs.declared.scoring.Scoring.{Scoring}
use Rattle.oth_rules.proofs.SearchLaws.{value-move_bound, value-move_reached, value-pass, value-over}
use Rattle.oth_rules.proofs.laws.value_by_the_rules.Goals as goal

by_moves : (g : Scoring) → IsValueByMoves (score_of g)
by_moves g = record { bound = value-move_bound (score_of g); reached = value-move_reached (score_of g) }

pub returns : goal.returns
returns c = record { moves = by_moves; pass = λ g. value-pass (score_of g); end = λ g. value-over (score_of g) }
