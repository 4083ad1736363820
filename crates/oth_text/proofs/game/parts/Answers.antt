use Rattle.std.proofs.Common.{◌≡◌, ◌∙◌, ap, false, sym, drop}
use Rattle.std.proofs.lemmas.List.{drop-drop, take_rest}
use Rattle.oth_text.specs.Game.{has_moves}
use Rattle.oth_text.proofs.GameLemmas.{at_another_byte, at_space, board_alone, board_is, moves_are, moves_none, no_moves_short}
use Rattle.oth_text.proofs.game.parts.Goals as goal
use Rattle.oth_text.proofs.game.parts.Goals.{then-line-le-BOARD_LINE_LEN-via-then-line-le-BOARD_LINE_LEN, then-line-le-BOARD_LINE_LEN-via-else-line-le-BOARD_LINE_LEN+then-line-ne32}

pub returns-then-line-le-BOARD_LINE_LEN-clause-board : goal.returns-then-line-le-BOARD_LINE_LEN-clause-board
returns-then-line-le-BOARD_LINE_LEN-clause-board c =
    let none : has_moves c.args.line.now ≡ false = elim c.then-line-le-BOARD_LINE_LEN.branch [
      | then-line-le-BOARD_LINE_LEN-via-then-line-le-BOARD_LINE_LEN w ↦ no_moves_short _ w.if-line-le-BOARD_LINE_LEN.true
      | then-line-le-BOARD_LINE_LEN-via-else-line-le-BOARD_LINE_LEN+then-line-ne32 w ↦ at_another_byte _ w.if-line-ne32.true
    ] in
    sym (board_alone _ none)

pub returns-then-line-le-BOARD_LINE_LEN-clause-moves : goal.returns-then-line-le-BOARD_LINE_LEN-clause-moves
returns-then-line-le-BOARD_LINE_LEN-clause-moves c =
    let none : has_moves c.args.line.now ≡ false = elim c.then-line-le-BOARD_LINE_LEN.branch [
      | then-line-le-BOARD_LINE_LEN-via-then-line-le-BOARD_LINE_LEN w ↦ no_moves_short _ w.if-line-le-BOARD_LINE_LEN.true
      | then-line-le-BOARD_LINE_LEN-via-else-line-le-BOARD_LINE_LEN+then-line-ne32 w ↦ at_another_byte _ w.if-line-ne32.true
    ] in
    sym (moves_none _ none)

pub returns-clause-board : goal.returns-clause-board
returns-clause-board c = c.split_at.ensures.front ∙ sym (board_is _ (at_space _ c.if-line-ne32.false))

pub returns-clause-moves : goal.returns-clause-moves
returns-clause-moves c =
    take_rest c.split_at.result.1.now 1 ∙ ap (drop 1) c.split_at.ensures.back ∙ drop-drop 1 66 c.args.line.now
    ∙ sym (moves_are _ (at_space _ c.if-line-ne32.false))
