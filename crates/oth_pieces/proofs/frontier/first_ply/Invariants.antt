use Rattle.std.proofs.Common.{◌≡◌}
use Rattle.oth_rules.specs.Move.{is_legal}
use Rattle.oth_pieces.specs.Frontier.{move_of}
use Rattle.oth_pieces.proofs.Belows.{items_below}
use Rattle.oth_pieces.proofs.frontier.first_ply.Given as goal

abbrev pub invariant-loop-number : goal.invariant-loop-number
invariant-loop-number l = l.items.items ≡ items_below (is_legal l.root) (move_of l.root) l.number
