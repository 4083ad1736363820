use Rattle.std.proofs.Common.{◌≡◌, ◌++◌, ℕ, arith, ap, ◌∙◌, length}
use Rattle.oth_rules.specs.Move.{is_legal, after}
use Rattle.oth_pieces.specs.declared.frontier.TheConstants.{MOST_ITEMS}
use Rattle.oth_pieces.specs.declared.frontier.item.Item.{Item}
use Rattle.oth_pieces.specs.Frontier.{item_after, children}
use Rattle.oth_pieces.proofs.Belows.{items_below, grows, room, whole}
use Rattle.oth_pieces.proofs.frontier.push_children.Goals as goal

abbrev after_move : Item → ℕ → Item
after_move parent s = item_after parent (after parent.board s)

pub push_child-requires : goal.push_child-requires
push_child-requires c =
    let parent : Item = c.args.parent.now in
    let e : length (items_below (is_legal parent.board) (after_move parent) 64) ≡ length (children parent) = ap length (whole parent.board (after_move parent)) in
    rw c.numbered.ensures
    (room (is_legal parent.board) (after_move parent) MOST_ITEMS c.args.items.now.items c.loop-number.items.items c.loop-number.number c.loop-number.invariant c.loop-number-test.true
    (omega arith))

pub loop-number-preserved : goal.loop-number-preserved
loop-number-preserved c =
    let parent : Item = c.args.parent.now in
    grows (is_legal parent.board) (after_move parent) c.args.items.now.items c.loop-number.items.items c.push_child.new.items.items c.loop-number.number c.loop-number.invariant
    (rw c.numbered.ensures at c.push_child.ensures)

pub returns : goal.returns
returns c =
    let parent : Item = c.args.parent.now in
    let end : c.loop-number.number ≡ 64 = omega arith in
    c.loop-number.invariant
    ∙ (ap (λ k. c.args.items.now.items ++ items_below (is_legal parent.board) (after_move parent) k) end
    ∙ ap (λ l. c.args.items.now.items ++ l) (whole parent.board (after_move parent)))
