use Rattle.std.proofs.Common.{rules}
use Rattle.oth_search.proofs.bounds.entry.Entry.words.Goals as goal

pub returns-clause-words : goal.returns-clause-words
returns-clause-words c = search rules
