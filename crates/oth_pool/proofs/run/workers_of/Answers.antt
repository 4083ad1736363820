use Rattle.std.proofs.Common.{arith, ◌∙◌}
use Rattle.oth_walk.proofs.Lendings.{LendsFloor-made, LendsTable-then}
use Rattle.oth_pool.proofs.run.workers_of.Goals as goal

pub loop-preserved : goal.loop-preserved
loop-preserved g c =
    let inv = c.loop.invariant in
    let pushed = c.push_reserved.ensures in
    let made = c.in-Ok-seat.ensures.made in
    let same = made.event.same in (
      omega (arith, pushed.len),
      omega (arith, pushed.capacity),
      (same.0 ∙ inv.2.0, same.1 ∙ inv.2.1),
      LendsFloor-made _ _ _ _ inv.3 made,
      LendsTable-then _ _ _ inv.4 c.worker_cells-cells.ensures.lends,
    )
