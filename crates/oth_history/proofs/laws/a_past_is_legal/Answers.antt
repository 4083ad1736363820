use Rattle.std.proofs.Common.{IsTrue}
use Rattle.oth_history.proofs.Histories.{legal_begin}
use Rattle.oth_history.proofs.laws.a_past_is_legal.Goals as goal

pub returns : goal.returns
returns g c = λ author makes fits. legal_begin author makes (λ h e. IsTrue (fits h e))
