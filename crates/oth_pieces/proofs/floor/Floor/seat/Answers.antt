use Rattle.std.proofs.Common.{rules, ◌∙◌}
use Rattle.oth_pieces.proofs.Floors.{names, forks}
use Rattle.oth_pieces.proofs.floor.Floor.seat.Goals as goal

pub load-requires : goal.load-requires
load-requires c = (search rules, search rules, names _ _ _ _ _ c.seat.invariant.0)

pub split_seat-seat-requires : goal.split_seat-seat-requires
split_seat-seat-requires c = let told = c.load.ensures in (search rules, search rules, forks _ _ _ told.2.0 (told.2.1.same.2 ∙ c.seat.invariant.0) told.2.2)
