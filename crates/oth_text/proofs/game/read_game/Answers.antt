use Rattle.std.proofs.Common.{◌≡◌, ◌∙◌, Err, Ok, Result, ap, subst, sym}
use Rattle.oth_text.specs.BoardLine.{IsBoardLine, reading}
use Rattle.oth_text.specs.Game.{game_reading}
use Rattle.oth_text.specs.Transcript.{IsTranscriptFrom, transcript_reading_from, with_forced_pass}
use Rattle.oth_text.specs.declared.fault.GameFault.{GameFault}
use Rattle.oth_text.specs.declared.fault.GameFault.TheVariants.{Moves}
use Rattle.oth_text.specs.declared.position.Position.{Position}
use Rattle.oth_text.proofs.GameLemmas.{game_is, moves_read, reads_behind}
use Rattle.oth_text.proofs.game.read_game.Goals as goal

pub returns-in-Err-clause-reading : goal.returns-in-Err-clause-reading
returns-in-Err-clause-reading c =
    sym (reads_behind _ (Err c.in-Err.fault) (ap reading (sym c.parts.ensures.board) ∙ sym c.read_board.ensures.reading ∙ c.in-Err.is))

pub returns-in-Ok-play_transcript-clause-reading : goal.returns-in-Ok-play_transcript-clause-reading
returns-in-Ok-play_transcript-clause-reading c =
    sym (moves_read _ c.in-Ok.position (Ok c.in-Ok-play_transcript.position)
    (ap reading (sym c.parts.ensures.board) ∙ sym c.read_board.ensures.reading ∙ c.in-Ok.is)
    (ap (transcript_reading_from (with_forced_pass c.in-Ok.position)) (sym c.parts.ensures.moves) ∙ sym c.play_transcript.ensures.reading ∙ c.in-Ok-play_transcript.is))

pub returns-in-Ok-play_transcript-clause-position : goal.returns-in-Ok-play_transcript-clause-position
returns-in-Ok-play_transcript-clause-position c = λ p. (
  λ e.
      let same : c.in-Ok-play_transcript.position ≡ p = cc in
      record {
        from = c.in-Ok.position;
        board = subst (λ t. IsBoardLine t c.in-Ok.position) c.parts.ensures.board ((c.read_board.ensures.line c.in-Ok.position).0 c.in-Ok.is);
        moves = subst (λ t. IsTranscriptFrom (with_forced_pass c.in-Ok.position) t p) c.parts.ensures.moves
            ((c.play_transcript.ensures.position p).0 (c.in-Ok-play_transcript.is ∙ ap (λ q. Ok q) same));
      },
  λ h.
      let read : ◌≡◌ {A = Result Position GameFault} (Ok c.in-Ok-play_transcript.position) (game_reading c.args.line.now) =
      sym (moves_read _ c.in-Ok.position (Ok c.in-Ok-play_transcript.position)
      (ap reading (sym c.parts.ensures.board) ∙ sym c.read_board.ensures.reading ∙ c.in-Ok.is)
      (ap (transcript_reading_from (with_forced_pass c.in-Ok.position)) (sym c.parts.ensures.moves) ∙ sym c.play_transcript.ensures.reading ∙ c.in-Ok-play_transcript.is)) in
      read ∙ game_is c.args.line.now p h,
)

pub returns-in-Err-play_transcript-clause-reading : goal.returns-in-Err-play_transcript-clause-reading
returns-in-Err-play_transcript-clause-reading c =
    sym (moves_read _ c.in-Ok.position (Err c.in-Err-play_transcript.fault)
    (ap reading (sym c.parts.ensures.board) ∙ sym c.read_board.ensures.reading ∙ c.in-Ok.is)
    (ap (transcript_reading_from (with_forced_pass c.in-Ok.position)) (sym c.parts.ensures.moves) ∙ sym c.play_transcript.ensures.reading ∙ c.in-Err-play_transcript.is))

pub returns-in-Err-play_transcript-clause-position : goal.returns-in-Err-play_transcript-clause-position
returns-in-Err-play_transcript-clause-position c = λ p. (
  λ e. absurd (cc),
  λ h.
      let read : ◌≡◌ {A = Result Position GameFault} (Err (Moves c.in-Err-play_transcript.fault)) (game_reading c.args.line.now) =
      sym (moves_read _ c.in-Ok.position (Err c.in-Err-play_transcript.fault)
      (ap reading (sym c.parts.ensures.board) ∙ sym c.read_board.ensures.reading ∙ c.in-Ok.is)
      (ap (transcript_reading_from (with_forced_pass c.in-Ok.position)) (sym c.parts.ensures.moves) ∙ sym c.play_transcript.ensures.reading ∙ c.in-Err-play_transcript.is)) in
      read ∙ game_is c.args.line.now p h,
)
