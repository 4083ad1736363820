use Rattle.std.proofs.Common.{ℕ, arith, slice_index_or}
use Rattle.oth_rules.proofs.Table.{rising_four, rising_fits}
use Rattle.oth_rules.proofs.Vectors.{up_lane, up_lane-is}
use Rattle.oth_rules.proofs.board.Board.flipped_upwards.Goals as goal

pub returns : goal.returns
returns c =
    let p = c.args.self.now in
    let own = c.own.result in
    let opp = c.opp.result in
    let rays = c.rising_rays.result.now in
    let ray : ℕ → ℕ = λ i. slice_index_or rays i 0 in
    rising_four p c.args.square rays (up_lane own opp (ray 0)) (up_lane own opp (ray 1)) (up_lane own opp (ray 2)) (up_lane own opp (ray 3))
    c.rising_rays.ensures.below c.rising_rays.ensures.value
    (up_lane-is p own opp (ray 0) c.own.ensures.board c.own.ensures.value c.opp.ensures.value (rising_fits 0 c.args.square rays (omega arith) c.rising_rays.ensures.below c.rising_rays.ensures.value))
    (up_lane-is p own opp (ray 1) c.own.ensures.board c.own.ensures.value c.opp.ensures.value (rising_fits 1 c.args.square rays (omega arith) c.rising_rays.ensures.below c.rising_rays.ensures.value))
    (up_lane-is p own opp (ray 2) c.own.ensures.board c.own.ensures.value c.opp.ensures.value (rising_fits 2 c.args.square rays (omega arith) c.rising_rays.ensures.below c.rising_rays.ensures.value))
    (up_lane-is p own opp (ray 3) c.own.ensures.board c.own.ensures.value c.opp.ensures.value (rising_fits 3 c.args.square rays (omega arith) c.rising_rays.ensures.below c.rising_rays.ensures.value))
