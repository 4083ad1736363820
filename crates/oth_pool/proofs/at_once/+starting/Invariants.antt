use Rattle.std.proofs.Common.{◌+◌, ◌*◌, ◌≡◌, length}
use Rattle.oth_pool.proofs.at_once.+starting.Given as goal

abbrev pub decreases-start_from : goal.decreases-start_from
decreases-start_from g l = 8 * length l.jobs.now

abbrev pub decreases-start_both : goal.decreases-start_both
decreases-start_both g l = 8 * length l.rest.now + (4 * length l.first.now + 2)

abbrev pub decreases-start_both-front : goal.decreases-start_both-front
decreases-start_both-front g l = 8 * length l.first.now + 1

abbrev pub decreases-start_both-back : goal.decreases-start_both-back
decreases-start_both-back g l = 8 * length l.rest.now + 1
