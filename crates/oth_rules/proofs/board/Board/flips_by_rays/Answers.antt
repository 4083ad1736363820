-- A move to an occupied square is illegal, and elsewhere it is legal just where something is flipped.
use Rattle.oth_rules.proofs.Words.{occupied_word, empty_at, none_is}
use Rattle.oth_rules.proofs.board.Board.flips_by_rays.Goals as goal

pub returns-then-word-empty_squares-eq0-clause-value : goal.returns-then-word-empty_squares-eq0-clause-value
returns-then-word-empty_squares-eq0-clause-value c =
    occupied_word c.args.self.now c.args.square c.word.result c.empty_squares.result c.word.ensures.below c.word.ensures.value c.empty_squares.ensures c.if-word-empty_squares-eq0.true

pub returns-then-word-empty_squares-eq0-clause-none : goal.returns-then-word-empty_squares-eq0-clause-none
returns-then-word-empty_squares-eq0-clause-none c =
    none_is c.args.self.now c.args.square 0
    (occupied_word c.args.self.now c.args.square c.word.result c.empty_squares.result c.word.ensures.below c.word.ensures.value c.empty_squares.ensures c.if-word-empty_squares-eq0.true)

pub flips_of_empty-requires : goal.flips_of_empty-requires
flips_of_empty-requires c =
    empty_at c.args.self.now c.args.square c.word.result c.empty_squares.result c.word.ensures.below c.word.ensures.value c.empty_squares.ensures c.if-word-empty_squares-eq0.false

pub returns-clause-none : goal.returns-clause-none
returns-clause-none c = none_is c.args.self.now c.args.square c.flips_of_empty.result c.flips_of_empty.ensures
