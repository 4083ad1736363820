use Rattle.oth_history.proofs.Histories.{legal_begin}
use Rattle.oth_pieces.specs.History.{author, makes, Fits}
use Rattle.oth_pieces.proofs.laws.a_past_is_legal.Goals as goal

pub returns : goal.returns
returns c = λ root. legal_begin author makes (Fits root)
