use Rattle.std.proofs.Common.{◌≡◌, ◌++◌}
use Rattle.oth_rules.specs.Move.{is_legal, after}
use Rattle.oth_pieces.specs.Frontier.{item_after}
use Rattle.oth_pieces.proofs.Belows.{items_below}
use Rattle.oth_pieces.proofs.frontier.push_children.Given as goal

abbrev pub invariant-loop-number : goal.invariant-loop-number
invariant-loop-number l = l.items.items ≡ l.initial.items.items ++ items_below (is_legal l.parent.board) (λ s. item_after l.parent (after l.parent.board s)) l.number
