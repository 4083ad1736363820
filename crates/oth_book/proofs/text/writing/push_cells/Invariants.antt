-- the cells so far
use Rattle.std.proofs.Common.{◌≡◌, take}
use Rattle.oth_book.specs.Order.{cells}
use Rattle.oth_book.proofs.text.writing.push_cells.Given as goal

abbrev pub invariant-loop-square : goal.invariant-loop-square
invariant-loop-square l = l.line.items ≡ take l.square (cells l.board)
