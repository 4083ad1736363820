use Rattle.std.proofs.Common.{◌≡◌, [], arith, ap, ◌∙◌, length}
use Rattle.oth_rules.specs.Position.{Position}
use Rattle.oth_rules.specs.Move.{is_legal}
use Rattle.oth_pieces.specs.Frontier.{move_of, moves_of}
use Rattle.oth_pieces.proofs.Belows.{items_below, grows, room, whole}
use Rattle.oth_pieces.proofs.frontier.first_ply.Goals as goal

pub push_move-requires : goal.push_move-requires
push_move-requires c =
    let root : Position = c.args.root in
    let e : length (items_below (is_legal root) (move_of root) 64) ≡ length (moves_of root) = ap length (whole root (move_of root)) in
    rw c.numbered-square.ensures (room (is_legal root) (move_of root) 64 [] c.loop-number.items.items c.loop-number.number c.loop-number.invariant c.loop-number-test.true (omega arith))

pub loop-number-preserved : goal.loop-number-preserved
loop-number-preserved c =
    let root : Position = c.args.root in
    grows (is_legal root) (move_of root) [] c.loop-number.items.items c.push_move.new.items.items c.loop-number.number c.loop-number.invariant (rw c.numbered-square.ensures at c.push_move.ensures)

pub returns : goal.returns
returns c =
    let root : Position = c.args.root in
    let end : c.loop-number.number ≡ 64 = omega arith in
    c.loop-number.invariant ∙ (ap (items_below (is_legal root) (move_of root)) end ∙ whole root (move_of root))
