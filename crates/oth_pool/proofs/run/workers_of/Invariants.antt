use Rattle.std.proofs.Common.{◌≡◌, vec_len}
use Rattle.std.specs.Prelude.{vec_capacity}
use Rattle.oth_pieces.specs.Watch.{IsSeatOf}
use Rattle.oth_walk.specs.Lending.{LendsFloor, LendsTable}
use Rattle.oth_pool.proofs.run.workers_of.Given as goal

abbrev pub invariant-loop : goal.invariant-loop
invariant-loop g l = (vec_len l.workers ≡ l.counter) × (vec_capacity l.workers ≡ l.means.workers) × IsSeatOf l.links.floor.now l.seat
    × LendsFloor l.initial.seat l.seat × LendsTable l.initial.table l.table
