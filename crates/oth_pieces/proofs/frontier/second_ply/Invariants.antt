use Rattle.std.proofs.Common.{◌≡◌, take}
use Rattle.std.specs.List.{flat_map}
use Rattle.oth_pieces.specs.Frontier.{below}
use Rattle.oth_pieces.proofs.frontier.second_ply.Given as goal

abbrev pub invariant-loop-item : goal.invariant-loop-item
invariant-loop-item l = l.items.items ≡ flat_map below (take l.item-index l.first)
