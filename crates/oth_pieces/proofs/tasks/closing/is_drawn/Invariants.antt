use Rattle.std.proofs.Common.{◌≡◌, take}
use Rattle.oth_pieces.specs.Drawn.{times_in_all}
use Rattle.oth_pieces.proofs.tasks.closing.is_drawn.Given as goal

abbrev pub invariant-loop-list : goal.invariant-loop-list
invariant-loop-list l = times_in_all l.number (take l.list-index l.lists) ≡ 0
