use Rattle.oth_history.proofs.Histories.{legal_begin}
use Rattle.oth_table.specs.History.{author, makes, Fits}
use Rattle.oth_table.proofs.laws.a_past_is_legal.Goals as goal

pub returns : goal.returns
returns c = λ terms. legal_begin author makes (Fits terms)
