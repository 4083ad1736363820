use Rattle.std.proofs.Common.{◌∙◌, Err, Ok, ap, sym}
use Rattle.oth_text.specs.Game.{moves_part}
use Rattle.oth_text.specs.Transcript.{with_forced_pass}
use Rattle.oth_text.proofs.GameLemmas.{alone_read, alone_refused, moves_read, reads_behind}
use Rattle.oth_text.proofs.game.GameReader.read.Goals as goal

pub returns-in-Ok : goal.returns-in-Ok
returns-in-Ok c = λ line keeps.
    let kept = rw c.in-Board.is at keeps in
    ap (λ p. Ok p) c.with_forced_pass.ensures.passed ∙ sym (alone_read line c.in-Ok.position kept.0 (sym (c.read.ensures line kept.1) ∙ c.in-Ok.is))

pub returns-in-Err : goal.returns-in-Err
returns-in-Err c = λ line keeps.
    let kept = rw c.in-Board.is at keeps in
    sym (alone_refused line c.in-Err.fault kept.0 (sym (c.read.ensures line kept.1) ∙ c.in-Err.is))

pub returns-in-Faulty : goal.returns-in-Faulty
returns-in-Faulty c = λ line keeps.
    let kept = rw c.in-Faulty.is at keeps in
    sym (reads_behind line (Err c.in-Faulty.fault) kept.1)

pub returns-in-Ok-read : goal.returns-in-Ok-read
returns-in-Ok-read c = λ line keeps.
    let kept = rw c.in-Moves.is at keeps in
    sym (moves_read line kept.1 (Ok c.in-Ok-read.position) kept.2
    (sym (c.read-in-Moves.ensures (with_forced_pass kept.1) (moves_part line) kept.3) ∙ c.in-Ok-read.is))

pub returns-in-Err-read : goal.returns-in-Err-read
returns-in-Err-read c = λ line keeps.
    let kept = rw c.in-Moves.is at keeps in
    sym (moves_read line kept.1 (Err c.in-Err-read.fault) kept.2
    (sym (c.read-in-Moves.ensures (with_forced_pass kept.1) (moves_part line) kept.3) ∙ c.in-Err-read.is))
