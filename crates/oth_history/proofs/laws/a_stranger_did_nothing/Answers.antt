use Rattle.std.proofs.Common.{IsTrue}
use Rattle.oth_history.proofs.Histories.{none_of}
use Rattle.oth_history.proofs.laws.a_stranger_did_nothing.Goals as goal

pub returns : goal.returns
returns g c = λ author makes fits. none_of author makes (λ h e. IsTrue (fits h e))
