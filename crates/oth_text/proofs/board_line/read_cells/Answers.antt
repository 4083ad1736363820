use Rattle.std.proofs.Common.{arith, w64}
use Rattle.std.proofs.lemmas.Nat.Bits.{bit_at-trailing_zeros}
use Rattle.oth_text.proofs.DiscLemmas.{AreWords, are_apart, are_shown, bad_cell, in_none}
use Rattle.oth_text.proofs.board_line.read_cells.Goals as goal

pub returns-then-bad-ne0-clause-fault : goal.returns-then-bad-ne0-clause-fault
returns-then-bad-ne0-clause-fault c =
    let words : AreWords c.args.text.now c.squares_of-black.result c.squares_of-white.result c.squares_of.result = record {
      are_black = c.squares_of-black.ensures;
      are_white = c.squares_of-white.ensures;
      are_empty = c.squares_of.ensures;
      black_fits = c.squares_of-black.type_inv;
      white_fits = c.squares_of-white.type_inv;
      empty_fits = c.squares_of.type_inv;
    } in
    let none = in_none c.squares_of-black.result c.squares_of-white.result c.squares_of.result in
    let least = bit_at-trailing_zeros w64 none (omega (arith, c.if-bad-ne0.true)) (omega arith) in
    bad_cell c.args.text.now _ _ _ words c.requires _ least.0 least.1 least.2

pub returns-clause-cells : goal.returns-clause-cells
returns-clause-cells c =
    let words : AreWords c.args.text.now c.squares_of-black.result c.squares_of-white.result c.squares_of.result = record {
      are_black = c.squares_of-black.ensures;
      are_white = c.squares_of-white.ensures;
      are_empty = c.squares_of.ensures;
      black_fits = c.squares_of-black.type_inv;
      white_fits = c.squares_of-white.type_inv;
      empty_fits = c.squares_of.type_inv;
    } in
    are_shown c.args.text.now _ _ _ words c.if-bad-ne0.false

pub returns-clause-apart : goal.returns-clause-apart
returns-clause-apart c =
    let words : AreWords c.args.text.now c.squares_of-black.result c.squares_of-white.result c.squares_of.result = record {
      are_black = c.squares_of-black.ensures;
      are_white = c.squares_of-white.ensures;
      are_empty = c.squares_of.ensures;
      black_fits = c.squares_of-black.type_inv;
      white_fits = c.squares_of-white.type_inv;
      empty_fits = c.squares_of.type_inv;
    } in
    are_apart c.args.text.now _ _ _ words
