use Rattle.std.proofs.Common.{◌≡◌, ◌+◌, ◌*◌, arith}
use Rattle.std.specs.Prelude.{count_by}
use Rattle.oth_rules.specs.Square.{squares}
use Rattle.oth_rules.specs.Position.{pass}
use Rattle.oth_rules.specs.Move.{is_flipped}
use Rattle.oth_rules.proofs.Counts.{count_most}
use Rattle.oth_rules.proofs.LastMoves.{last_flips, start_fits, parts_of, illegal_counts}
use Rattle.oth_rules.proofs.board.Board.last_flips.Goals as goal
use Rattle.oth_rules.proofs.board.Board.last_flips.Goals.{After-counted-4}

pub counted-requires : goal.counted-requires
counted-requires c = start_fits c.line_starts.result.now c.args.square _ c.line_starts.ensures.below (omega arith) c.line_starts.ensures.value

pub counted-requires-2 : goal.counted-requires-2
counted-requires-2 c = start_fits c.line_starts.result.now c.args.square _ c.line_starts.ensures.below (omega arith) c.line_starts.ensures.value

pub counted-requires-3 : goal.counted-requires-3
counted-requires-3 c = start_fits c.line_starts.result.now c.args.square _ c.line_starts.ensures.below (omega arith) c.line_starts.ensures.value

pub counted-requires-4 : goal.counted-requires-4
counted-requires-4 c = start_fits c.line_starts.result.now c.args.square _ c.line_starts.ensures.below (omega arith) c.line_starts.ensures.value

all : (c : After-counted-4) → c.counted.result + c.counted-2.result + c.counted-3.result + c.counted-4.result
    ≡ count_by (is_flipped c.args.self.now c.args.square) squares + 256 * count_by (is_flipped (pass c.args.self.now) c.args.square) squares
all c =
    last_flips c.args.self.now c.args.square c.own-own.ensures.board c.requires c.own-own.result c.own-own.ensures.value
    c.line_masks.result.now c.line_factors.result.now c.line_starts.result.now
    c.line_masks.ensures.value c.line_factors.ensures.value c.line_starts.ensures.value
    c.counted.result c.counted-2.result c.counted-3.result c.counted-4.result
    c.counted.ensures.value c.counted-2.ensures.value c.counted-3.ensures.value c.counted-4.ensures.value

pub returns-clause-mover : goal.returns-clause-mover
returns-clause-mover c = (parts_of _ _ _ (all c) (count_most (is_flipped c.args.self.now c.args.square))).0

pub returns-clause-other : goal.returns-clause-other
returns-clause-other c = (parts_of _ _ _ (all c) (count_most (is_flipped c.args.self.now c.args.square))).1

pub returns-clause-none : goal.returns-clause-none
returns-clause-none c = illegal_counts c.args.self.now c.args.square _ (returns-clause-mover c)

pub returns-clause-none_of_other : goal.returns-clause-none_of_other
returns-clause-none_of_other c = illegal_counts (pass c.args.self.now) c.args.square _ (returns-clause-other c)
