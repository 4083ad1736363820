use Rattle.oth_book.proofs.LawLemmas.{no_beginning}
use Rattle.oth_book.proofs.laws.no_text_begins_another.Goals as goal

pub returns : goal.returns
returns c = no_beginning
