use Rattle.std.proofs.Common.{rules, ◌≡◌}
use Rattle.oth_rules.specs.Score.{score_of}
use Rattle.oth_rules.specs.Value.{value}
use Rattle.oth_rules.proofs.Scores.{value_bounds}
use Rattle.oth_walk.specs.MoveBounds.{child_value}
use Rattle.oth_walk.proofs.Truths.{least}
use Rattle.oth_walk.proofs.move_bounds.BoundsSeat.tell.Goals as goal

pub raise-requires-then-eq-2-clause-bound : goal.raise-requires-then-eq-2-clause-bound
raise-requires-then-eq-2-clause-bound c =
    let known = c.args.child.now in
    let same : value (score_of known.scoring) known.board ≡ child_value c.raise.new.self.bounds.now.root c.number-number.result = search rules in
    least _ _ _ _ (search rules) known.encloses.above (value_bounds known.scoring known.board) same
