use Rattle.std.proofs.Common.{rules}
use Rattle.oth_search.proofs.root.guess.bracket.Bracket.from.Goals as goal

pub returns : goal.returns
returns c = search rules
