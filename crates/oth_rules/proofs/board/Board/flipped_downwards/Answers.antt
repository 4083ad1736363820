use Rattle.std.proofs.Common.{ℕ, ◌<◌, arith, slice_index_or}
use Rattle.std.specs.Prelude.{bit_or}
use Rattle.std.specs.Int.{leading_zeros, w64}
use Rattle.oth_rules.proofs.Nearest.{leading_under}
use Rattle.oth_rules.proofs.Table.{falling_four, falling_fits}
use Rattle.oth_rules.proofs.Vectors.{free_word, free_fits, down_lane, down_lane-is}
use Rattle.oth_rules.proofs.board.Board.flipped_downwards.Goals as goal

pub overflow_shr-nearest : goal.overflow_shr-nearest
overflow_shr-nearest c = (below 0, (below 1, (below 2, (below 3, tt))))
  where
    below : (i : ℕ) → leading_zeros w64 (bit_or (free_word (slice_index_or c.falling_rays.result.now i 0) c.opp.result) 1) < 64
    below i =
        leading_under (free_word (slice_index_or c.falling_rays.result.now i 0) c.opp.result)
        (free_fits (slice_index_or c.falling_rays.result.now i 0) c.opp.result)

pub returns : goal.returns
returns c =
    let p = c.args.self.now in
    let own = c.own.result in
    let opp = c.opp.result in
    let rays = c.falling_rays.result.now in
    let ray : ℕ → ℕ = λ i. slice_index_or rays i 0 in
    falling_four p c.args.square rays (down_lane own opp (ray 0)) (down_lane own opp (ray 1)) (down_lane own opp (ray 2)) (down_lane own opp (ray 3))
    c.falling_rays.ensures.below c.falling_rays.ensures.value
    (down_lane-is p own opp (ray 0) c.own.ensures.board c.own.ensures.value c.opp.ensures.value
    (falling_fits 0 c.args.square rays (omega arith) c.falling_rays.ensures.below c.falling_rays.ensures.value))
    (down_lane-is p own opp (ray 1) c.own.ensures.board c.own.ensures.value c.opp.ensures.value
    (falling_fits 1 c.args.square rays (omega arith) c.falling_rays.ensures.below c.falling_rays.ensures.value))
    (down_lane-is p own opp (ray 2) c.own.ensures.board c.own.ensures.value c.opp.ensures.value
    (falling_fits 2 c.args.square rays (omega arith) c.falling_rays.ensures.below c.falling_rays.ensures.value))
    (down_lane-is p own opp (ray 3) c.own.ensures.board c.own.ensures.value c.opp.ensures.value
    (falling_fits 3 c.args.square rays (omega arith) c.falling_rays.ensures.below c.falling_rays.ensures.value))
