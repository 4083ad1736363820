use Rattle.std.proofs.Common.{◌≡◌, ◌∙◌, [], ◌∷◌, ◌++◌, length, ap, subst, sym, rules}
use Rattle.std.proofs.lemmas.Bool.{eqb-false}
use Rattle.oth_text.specs.BoardLine.{reading}
use Rattle.oth_text.specs.Game.{KeepsGame, moves_part}
use Rattle.oth_text.specs.Transcript.{StandsFrom, with_forced_pass}
use Rattle.oth_text.proofs.GameLemmas.{goes_on_before, goes_on_behind}
use Rattle.oth_text.proofs.game.GameReader.push_byte.Goals as goal
use Rattle.oth_text.proofs.game.GameReader.push_byte.Goals.{else-byte-eq32-via-then-byte-eq32+else-has_length_of_line, else-byte-eq32-via-else-byte-eq32}

pub returns-else-byte-eq32 : goal.returns-else-byte-eq32
returns-else-byte-eq32 c = λ line keeps.
    let kept = rw c.in-Board.is at keeps in
    let other : (c.args.byte ≡ 32) → (length line ≡ 66) → ⊥ = elim c.else-byte-eq32.branch [
      | else-byte-eq32-via-then-byte-eq32+else-has_length_of_line w ↦ λ is len. eqb-false (length line) 66 (sym (w.has_length_of_line.ensures line kept.1) ∙ w.if-has_length_of_line.false) len
      | else-byte-eq32-via-else-byte-eq32 w ↦ λ is len. w.if-byte-eq32.false is
    ] in
    (goes_on_before line c.args.byte kept.0 other, c.push.ensures line kept.1)

pub returns-in-Faulty : goal.returns-in-Faulty
returns-in-Faulty c = λ line keeps.
    let kept = rw c.in-Faulty.is at keeps in
    let still = goes_on_behind line (c.args.byte ∷ []) kept.0 in
    subst (λ r. KeepsGame r (line ++ c.args.byte ∷ [])) (sym c.in-Faulty.is) (still.0, ap reading still.1 ∙ kept.1)

pub returns-in-Moves : goal.returns-in-Moves
returns-in-Moves c = λ line keeps.
    let kept = rw c.in-Moves.is at keeps in
    let still = goes_on_behind line (c.args.byte ∷ []) kept.0 in (
      still.0,
      kept.1,
      ap reading still.1 ∙ kept.2,
      subst (λ t. StandsFrom (with_forced_pass kept.1) c.push-in-Moves.new.self t) (sym still.2) (c.push-in-Moves.ensures (with_forced_pass kept.1) (moves_part line) kept.3),
    )

pub returns-then-has_length_of_line : goal.returns-then-has_length_of_line
returns-then-has_length_of_line c = search rules
