use Rattle.std.proofs.Common.{sym}
use Rattle.oth_text.proofs.GameLemmas.{not_nil}
use Rattle.oth_text.proofs.game.GameReader.is_empty.Goals as goal

pub returns-in-Faulty : goal.returns-in-Faulty
returns-in-Faulty c = λ line keeps. let kept = rw c.in-Faulty.is at keeps in sym (not_nil line kept.0)

pub returns-in-Moves : goal.returns-in-Moves
returns-in-Moves c = λ line keeps. let kept = rw c.in-Moves.is at keeps in sym (not_nil line kept.0)
