use Rattle.std.proofs.Common.{arith}
use Rattle.oth_rules.specs.Line.{direction_of, outflanks}
use Rattle.oth_rules.proofs.Words.{compasses, no_word, any_word_more, all_compasses, legal_word}
use Rattle.oth_rules.proofs.board.Board.moves_by_shifts.Goals as goal

pub loop-direction-init : goal.loop-direction-init
loop-direction-init c = no_word

pub loop-direction-preserved : goal.loop-direction-preserved
loop-direction-preserved c =
    any_word_more (λ d s. outflanks c.args.self.now s (direction_of d)) compasses c.loop-direction.direction-index c.loop-direction.outflanking c.outflanking-outflanking.result _
    c.loop-direction-test.true c.loop-direction.invariant c.outflanking-outflanking.ensures

pub returns : goal.returns
returns c =
    legal_word c.args.self.now c.loop-direction.outflanking c.empty_squares.result
    (all_compasses (λ d s. outflanks c.args.self.now s d) c.loop-direction.outflanking c.loop-direction.direction-index (omega arith) c.loop-direction.invariant)
    c.empty_squares.ensures
