use Rattle.std.proofs.Common.{rules}
use Rattle.oth_main.proofs.terminal.under_search.UnderSearch.known_of.Goals as goal

pub returns-clause-board : goal.returns-clause-board
returns-clause-board c = search rules
