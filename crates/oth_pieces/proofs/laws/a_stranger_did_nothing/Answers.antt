use Rattle.oth_history.proofs.Histories.{none_of}
use Rattle.oth_pieces.specs.History.{author, makes, Fits}
use Rattle.oth_pieces.proofs.laws.a_stranger_did_nothing.Goals as goal

pub returns : goal.returns
returns c = λ root. none_of author makes (Fits root)
