use Rattle.oth_book.proofs.ReadingCells.{AreCells}
use Rattle.oth_book.proofs.text.cells.read_cells.Given as goal

abbrev pub invariant-loop-square : goal.invariant-loop-square
invariant-loop-square l = AreCells l.bytes l.own l.opp l.square
