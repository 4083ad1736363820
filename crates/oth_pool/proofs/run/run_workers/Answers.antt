use Rattle.std.proofs.Common.{arith, rules}
use Rattle.std.proofs.lemmas.Int.{ints}
use Rattle.oth_pool.proofs.Floors.{least_floor}
use Rattle.oth_pool.proofs.run.run_workers.Goals as goal

pub run-gathered-requires-clause-raised : goal.run-gathered-requires-clause-raised
run-gathered-requires-clause-raised g c κs within =
    omega (arith, ints, c.unknown-root.ensures.lower, least_floor c.args.seat.now.seen)

pub returns-clause-table : goal.returns-clause-table
returns-clause-table g c = search rules
