use Rattle.std.proofs.Common.{ap, ◌∙◌, ◌++◌, ◌∷◌, [], length}
use Rattle.oth_book.proofs.CellLemmas.{length-cells}
use Rattle.oth_book.proofs.WriteLemmas.{cells_more, cells_all}
use Rattle.oth_book.proofs.text.writing.push_cells.Goals as goal

pub loop-square-preserved : goal.loop-square-preserved
loop-square-preserved c =
    c.push.ensures.items
    ∙ ap (λ b. c.loop-square.line.items ++ b ∷ []) c.cell.ensures
    ∙ cells_more c.args.board.now c.loop-square.square c.loop-square.line.items c.loop-square-test.true c.loop-square.invariant

pub returns-clause-cells : goal.returns-clause-cells
returns-clause-cells c = cells_all c.args.board.now c.loop-square.square c.loop-square.line.items c.loop-square-test.false c.loop-square.invariant

pub returns-clause-len : goal.returns-clause-len
returns-clause-len c = ap length (cells_all c.args.board.now c.loop-square.square c.loop-square.line.items c.loop-square-test.false c.loop-square.invariant) ∙ length-cells c.args.board.now
