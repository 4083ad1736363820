use Rattle.std.proofs.Common.{◌++◌, ◌∷◌, [], sym, ap, ◌∙◌, arith, length, length-append}
use Rattle.oth_pieces.proofs.Lefts.{stays_left, was_drawn}
use Rattle.oth_pieces.proofs.tasks.closing.left_of.Goals as goal

pub loop-number-preserved-then-is_drawn : goal.loop-number-preserved-then-is_drawn
loop-number-preserved-then-is_drawn c =
    let inv = c.loop-number.invariant in
    (inv.0 ∙ sym (was_drawn c.args.lists.now c.loop-number.number (c.is_drawn.ensures.drawn c.if-is_drawn.true)), omega arith)

pub loop-number-preserved : goal.loop-number-preserved
loop-number-preserved c =
    let inv = c.loop-number.invariant in
    let none = c.is_drawn.ensures.left c.if-is_drawn.false in (
      c.push.ensures.items ∙ (ap (λ l. l ++ c.loop-number.number ∷ []) inv.0 ∙ sym (stays_left c.args.lists.now c.loop-number.number none)),
      omega (arith, ap length c.push.ensures.items, length-append c.loop-number.left.items (c.loop-number.number ∷ [])),
    )
