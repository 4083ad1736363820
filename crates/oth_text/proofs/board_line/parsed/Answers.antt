use Rattle.std.proofs.Common.{◌≡◌, slice_index, rules}
use Rattle.oth_text.specs.BoardLine.{side_byte}
use Rattle.oth_text.proofs.ReadingLemmas.{line_of}
use Rattle.oth_text.proofs.board_line.parsed.Goals as goal
use Rattle.oth_text.proofs.board_line.parsed.Goals.{in-88, in-79}

pub returns-clause-line : goal.returns-clause-line
returns-clause-line c =
    let sides = c.in_ok-black.ensures in
    let p = c.of_sides.result in
    let is = c.of_sides.ensures.mover in
    let mover : slice_index c.args.text.now 65 ≡ side_byte c.match-text.mover = elim c.match-text.branch [
      | in-88 w ↦ rw w.mover-is w.in-88.is
      | in-79 w ↦ rw w.mover-is w.in-79.is
    ] in
    line_of _ c.in_ok-black.black c.in_ok-black.white p c.of_sides.ensures.board sides.apart (rw is c.of_sides.ensures.own) (rw is c.of_sides.ensures.opp)
    c.if-text-ne-BOARD_LINE_LEN.false sides.cells c.if-text-ne32.false (rw is mover)

pub returns-then-text-ne32-clause-fault : goal.returns-then-text-ne32-clause-fault
returns-then-text-ne32-clause-fault c = search rules
