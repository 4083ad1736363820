use Rattle.std.proofs.Common.{◌∙◌, [], ◌∷◌, ◌++◌, ap, subst, sym}
use Rattle.oth_text.specs.BoardLine.{reading}
use Rattle.oth_text.specs.Game.{moves_part}
use Rattle.oth_text.specs.Transcript.{StandsFrom}
use Rattle.oth_text.proofs.GameLemmas.{begins}
use Rattle.oth_text.proofs.game.behind.Goals as goal

pub returns-in-Ok : goal.returns-in-Ok
returns-in-Ok c = λ line keeps len.
    let begun = begins line len in
    let stands = subst (λ t. StandsFrom c.with_forced_pass.result c.starting_at.result t) (sym begun.2) c.starting_at.ensures in (
      begun.0,
      c.in-Ok.position,
      ap reading begun.1 ∙ sym (c.read.ensures line keeps) ∙ c.in-Ok.is,
      subst (λ p. StandsFrom p c.starting_at.result (moves_part (line ++ 32 ∷ []))) c.with_forced_pass.ensures.passed stands,
    )

pub returns-in-Err : goal.returns-in-Err
returns-in-Err c = λ line keeps len.
    let begun = begins line len in
    (begun.0, ap reading begun.1 ∙ sym (c.read.ensures line keeps) ∙ c.in-Err.is)
