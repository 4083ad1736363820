-- A move to an occupied square is illegal, and elsewhere it is legal just where something is flipped.
use Rattle.std.proofs.Common.{◌≡◌}
use Rattle.std.specs.Prelude.{bit_or}
use Rattle.oth_rules.specs.Square.{word_of, is_in}
use Rattle.oth_rules.specs.Move.{flipped_along, is_flipped}
use Rattle.oth_rules.proofs.Words.{occupied_word, empty_at, flipped_of_empty, none_is}
use Rattle.oth_rules.proofs.Table.{senses_word}
use Rattle.oth_rules.proofs.board.Board.flips.Goals as goal
use Rattle.oth_rules.proofs.board.Board.flips.Goals.{After-flipped_downwards}

pub returns-then-word-empty_squares-eq0-clause-value : goal.returns-then-word-empty_squares-eq0-clause-value
returns-then-word-empty_squares-eq0-clause-value c =
    occupied_word c.args.self.now c.args.square c.word.result c.empty_squares.result c.word.ensures.below c.word.ensures.value c.empty_squares.ensures c.if-word-empty_squares-eq0.true

pub returns-then-word-empty_squares-eq0-clause-none : goal.returns-then-word-empty_squares-eq0-clause-none
returns-then-word-empty_squares-eq0-clause-none c =
    none_is c.args.self.now c.args.square 0
    (occupied_word c.args.self.now c.args.square c.word.result c.empty_squares.result c.word.ensures.below c.word.ensures.value c.empty_squares.ensures c.if-word-empty_squares-eq0.true)

flipped : (c : After-flipped_downwards) → bit_or c.flipped_upwards.result c.flipped_downwards.result ≡ word_of (is_flipped c.args.self.now c.args.square)
flipped c =
    flipped_of_empty c.args.self.now c.args.square (bit_or c.flipped_upwards.result c.flipped_downwards.result)
    (empty_at c.args.self.now c.args.square c.word.result c.empty_squares.result c.word.ensures.below c.word.ensures.value c.empty_squares.ensures c.if-word-empty_squares-eq0.false)
    (senses_word (λ d q. is_in (flipped_along c.args.self.now c.args.square d) q) c.flipped_upwards.result c.flipped_downwards.result c.flipped_upwards.ensures c.flipped_downwards.ensures)

pub returns-clause-value : goal.returns-clause-value
returns-clause-value c = flipped c

pub returns-clause-none : goal.returns-clause-none
returns-clause-none c = none_is c.args.self.now c.args.square (bit_or c.flipped_upwards.result c.flipped_downwards.result) (flipped c)
