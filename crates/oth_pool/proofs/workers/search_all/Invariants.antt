use Rattle.std.proofs.Common.{◌≡◌}
use Rattle.oth_pieces.specs.Hands.{number_of}
use Rattle.oth_pool.specs.Working.{CanWork}
use Rattle.oth_pool.proofs.workers.search_all.Given as goal

abbrev pub invariant-loop : goal.invariant-loop
invariant-loop g l = CanWork l.search.frontier.now l.search.scoring l.tasks l.work × (number_of l.work.hand ≡ number_of l.initial.work.hand)
