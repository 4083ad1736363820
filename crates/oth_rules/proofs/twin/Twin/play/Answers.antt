-- A move to an occupied square is illegal, and elsewhere it is legal just where something is flipped.
use Rattle.std.proofs.Common.{refl, rules}
use Rattle.oth_rules.proofs.Words.{occupied_word, empty_at, flipped_none}
use Rattle.oth_rules.proofs.twin.Twin.play.Goals as goal

pub returns-then-word-empty_squares-eq0 : goal.returns-then-word-empty_squares-eq0
returns-then-word-empty_squares-eq0 c =
    let empty = rw c.board.ensures at c.empty_squares.ensures in
    let nothing = occupied_word c.args.self c.args.square c.word.result c.empty_squares.result c.word.ensures.below c.word.ensures.value empty c.if-word-empty_squares-eq0.true in
    let none = flipped_none c.args.self c.args.square 0 nothing refl in
    search (rules, none)

pub legal_flips-requires : goal.legal_flips-requires
legal_flips-requires c =
    let empty = rw c.board.ensures at c.empty_squares.ensures in
    empty_at c.args.self c.args.square c.word.result c.empty_squares.result c.word.ensures.below c.word.ensures.value empty c.if-word-empty_squares-eq0.false
