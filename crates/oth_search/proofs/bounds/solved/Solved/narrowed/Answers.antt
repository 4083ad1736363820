use Rattle.std.proofs.Common.{rules}
use Rattle.oth_search.proofs.bounds.solved.Solved.narrowed.Goals as goal

pub between-requires-clause-bounds : goal.between-requires-clause-bounds
between-requires-clause-bounds c = search rules
