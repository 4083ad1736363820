-- Something is flipped just where the move is legal.
use Rattle.std.proofs.Common.{rules}
use Rattle.oth_rules.proofs.Words.{flipped_none, flipped_some}
use Rattle.oth_rules.proofs.board.Board.play.Goals as goal

pub returns-then-flipped-eq0 : goal.returns-then-flipped-eq0
returns-then-flipped-eq0 c =
    let none = flipped_none c.args.self.now c.args.square c.flips_by_rays-flipped.result c.flips_by_rays-flipped.ensures.value c.if-flipped-eq0.true in
    search (rules, none)

pub play_flipped-requires-clause-legal : goal.play_flipped-requires-clause-legal
play_flipped-requires-clause-legal c =
    flipped_some c.args.self.now c.args.square c.flips_by_rays-flipped.result c.flips_by_rays-flipped.ensures.value c.if-flipped-eq0.false

pub returns-clause-moved : goal.returns-clause-moved
returns-clause-moved c = (
  flipped_some c.args.self.now c.args.square c.flips_by_rays-flipped.result c.flips_by_rays-flipped.ensures.value c.if-flipped-eq0.false,
  c.play_flipped.ensures,
)
