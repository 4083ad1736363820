use Rattle.std.proofs.Common.{◌≡◌, arith}
use Rattle.oth_book.proofs.ReadingCells.{own_more, opp_more, empty_more, empty_cell, are_apart, cells_all, is_board, not_err}
use Rattle.oth_book.proofs.text.cells.read_cells.Goals as goal
use Rattle.oth_book.proofs.text.cells.read_cells.Goals.{then-byte-eq88, else-byte-eq88+then-byte-eq79, else-byte-eq88+else-byte-eq79}

pub loop-square-preserved : goal.loop-square-preserved
loop-square-preserved c =
    let so_far = c.loop-square.invariant in
    elim c.if-byte-eq88.branch [
      | then-byte-eq88 w ↦ rw (w.own-is, w.opp-is) (own_more _ _ _ _ so_far c.loop-square-test.true w.if-byte-eq88.true)
      | else-byte-eq88+then-byte-eq79 w ↦ rw (w.own-is, w.opp-is) (opp_more _ _ _ _ so_far c.loop-square-test.true w.if-byte-eq79.true)
      | else-byte-eq88+else-byte-eq79 w ↦ rw (w.own-is, w.opp-is) (empty_more _ _ _ _ so_far
          (empty_cell _ (c.requires.cells c.loop-square.square (omega (arith, c.requires.len))) w.if-byte-eq88.false w.if-byte-eq79.false))
    ]

pub unwrap-requires : goal.unwrap-requires
unwrap-requires c = not_err c.of.result (λ h. let apart = are_apart _ _ _ _ c.loop-square.invariant in omega (arith, c.of.ensures.refused.0 h, apart))

pub returns-clause-cells : goal.returns-clause-cells
returns-clause-cells c =
    let board = rw c.unwrap.ensures at c.of.ensures.value in
    let all : c.loop-square.square ≡ 64 = omega arith in
    rw board (cells_all c.args.bytes.now (record { own = c.loop-square.own; opp = c.loop-square.opp }) c.requires.len (rw (← all) c.loop-square.invariant))

pub returns-clause-board : goal.returns-clause-board
returns-clause-board c =
    let board = rw c.unwrap.ensures at c.of.ensures.value in
    rw board (is_board _ _ _ _ c.loop-square.auto.own-fits c.loop-square.auto.opp-fits c.loop-square.invariant)
