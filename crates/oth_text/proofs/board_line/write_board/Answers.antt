use Rattle.std.proofs.Common.{◌∙◌, arith, refl, sym}
use Rattle.oth_text.specs.BoardLine.{IsBoardLine}
use Rattle.oth_text.proofs.ReadingLemmas.{is_board_line, reading_line, written}
use Rattle.oth_text.proofs.OneLineLemmas.{board_line-one}
use Rattle.oth_text.proofs.board_line.write_board.Goals as goal

is_line : (c : goal.After-push-3) → IsBoardLine c.push-3.new.self.items c.args.position.now
is_line c =
    let so_far = c.loop-n.invariant in
    rw (c.push-3.ensures.items, c.push-2.ensures.items, c.side_byte.ensures)
    (written c.loop-n.line.items _ _ 32 c.args.position.now c.black-black.ensures.board c.black-black.ensures.discs c.white-white.ensures (omega arith) (λ s l. so_far.cells s (omega arith)) refl)

pub returns-clause-line : goal.returns-clause-line
returns-clause-line c = is_board_line _ _ (is_line c)

pub returns-clause-is_line : goal.returns-clause-is_line
returns-clause-is_line c = is_line c

pub returns-clause-reads_back : goal.returns-clause-reads_back
returns-clause-reads_back c = reading_line _ _ (is_line c)

pub returns-clause-one_line : goal.returns-clause-one_line
returns-clause-one_line c = board_line-one _ c.args.position.now (is_board_line _ _ (is_line c))

pub returns-clause-only : goal.returns-clause-only
returns-clause-only c = λ text h. is_board_line text c.args.position.now h ∙ sym (is_board_line _ _ (is_line c))
