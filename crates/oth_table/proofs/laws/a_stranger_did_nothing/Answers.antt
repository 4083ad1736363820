use Rattle.oth_history.proofs.Histories.{none_of}
use Rattle.oth_table.specs.History.{author, makes, Fits}
use Rattle.oth_table.proofs.laws.a_stranger_did_nothing.Goals as goal

pub returns : goal.returns
returns c = λ terms. none_of author makes (Fits terms)
