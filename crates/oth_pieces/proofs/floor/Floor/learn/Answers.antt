use Rattle.std.proofs.Common.{rules, ap, ◌∙◌}
use Rattle.oth_pieces.proofs.Floors.{tells, learns}
use Rattle.oth_pieces.proofs.floor.Floor.learn.Goals as goal

pub join_seat-requires : goal.join_seat-requires
join_seat-requires c = (search rules, search rules, search rules, search rules, tells _ _ _ _ _)

pub load-requires : goal.load-requires
load-requires c = (search rules, search rules, learns _ _ _ _ _ (ap (λ m. m.0.live) c.join_seat.ensures.2 ∙ c.seat.invariant.0))
