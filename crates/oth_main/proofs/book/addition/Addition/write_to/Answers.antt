use Rattle.std.proofs.Common.{rules}
use Rattle.oth_main.proofs.book.addition.Addition.write_to.Goals as goal

pub returns-clause-works : goal.returns-clause-works
returns-clause-works g c = search rules

pub returns-clause-text : goal.returns-clause-text
returns-clause-text g c = search rules
