use Rattle.oth_book.proofs.KeepLemmas.{added_there}
use Rattle.oth_main.proofs.book.addition.Addition.add.Goals as goal

pub returns-in-Ok-clause-there : goal.returns-in-Ok-clause-there
returns-in-Ok-clause-there c = added_there _ _ c.args.answer.now _ c.in-Ok.ensures.added
