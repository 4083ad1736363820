use Rattle.std.proofs.Common.{rules}
use Rattle.oth_search.proofs.root.guess.bracket.Bracket.at_most.Goals as goal

pub between-requires-clause-high : goal.between-requires-clause-high
between-requires-clause-high c = search rules
