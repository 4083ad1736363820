use Rattle.std.proofs.Common.{◌≡◌, sym}
use Rattle.oth_book.proofs.OrderLemmas.{board_cmp-equal, board_cmp-at, differ, lowest_within}
use Rattle.oth_book.proofs.order.compare.Goals as goal

pub returns-then-differ-eq0 : goal.returns-then-differ-eq0
returns-then-differ-eq0 c =
    let same : differ c.args.a.now c.args.b.now ≡ 0 =
    rw (← c.own.ensures.value, ← c.own-2.ensures.value, ← c.opp.ensures.value, ← c.opp-2.ensures.value) c.if-differ-eq0.true in
    sym (board_cmp-equal _ _ same)

pub cell-requires : goal.cell-requires
cell-requires c = lowest_within _ _ _ _ c.own.type_inv c.own-2.type_inv c.opp.type_inv c.opp-2.type_inv c.if-differ-eq0.false

pub cell-requires-2 : goal.cell-requires-2
cell-requires-2 c = lowest_within _ _ _ _ c.own.type_inv c.own-2.type_inv c.opp.type_inv c.opp-2.type_inv c.if-differ-eq0.false

pub returns : goal.returns
returns c =
    board_cmp-at c.args.a.now c.args.b.now c.own.ensures.board c.own-2.ensures.board _ _ _ _ _ _ _
    c.own.ensures.value c.own-2.ensures.value c.opp.ensures.value c.opp-2.ensures.value c.if-differ-eq0.false
    c.cell.ensures c.cell-2.ensures c.cmp.ensures
