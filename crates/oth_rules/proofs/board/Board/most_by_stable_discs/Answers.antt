use Rattle.std.specs.Prelude.{count_ones}
use Rattle.std.proofs.lemmas.Nat.{ones-le}
use Rattle.oth_rules.specs.Score.{score_of}
use Rattle.oth_rules.specs.Value.{value}
use Rattle.oth_rules.proofs.StableValues.{stable-most, stable-computed, left-computed}
use Rattle.oth_rules.proofs.board.Board.most_by_stable_discs.Goals as goal

pub returns-clause-value : goal.returns-clause-value
returns-clause-value c g =
    let p = c.args.self.now in
    let stable = c.stable_discs.result in
    let fits = c.stable_discs.type_inv in
    stable-computed (value (score_of g) p) (count_ones stable) (ones-le 64 stable fits) (stable-most g p stable fits c.stable_discs.ensures)

pub returns-clause-discs : goal.returns-clause-discs
returns-clause-discs c =
    let stable = c.stable_discs.result in
    left-computed c.args.self.now stable (ones-le 64 stable c.stable_discs.type_inv) c.stable_discs.ensures
