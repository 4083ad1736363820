-- What is told of a line, by what it was read as.
--     board_reply told reading      what is told of the board that was read, or the line's first fault
--     transcript_reply reading      the board line of the position that a transcript leads to, or the line's first fault
--     play_reply reading      the board line of the position that a game leads to, or the line's first fault
use Rattle.std.specs.Prelude.{ℕ, List, Result, Ok, Err}
use Rattle.oth_rules.specs.Position.{Position as Discs}
use Rattle.oth_text.specs.BoardLine.{board_line}
use Rattle.oth_text.specs.FaultLine.{fault_line_of, game_fault_line_of, transcript_fault_line_of}
use Rattle.oth_text.specs.declared.fault.GameFault.{GameFault}
use Rattle.oth_text.specs.declared.fault.LineFault.{LineFault}
use Rattle.oth_text.specs.declared.fault.TranscriptFault.{TranscriptFault}
use Rattle.oth_text.specs.declared.position.Position.{Position}

abbrev pub board_reply : (Discs → List ℕ) → Result Position LineFault → List ℕ
board_reply told (Ok position) = told position.board
board_reply told (Err fault) = fault_line_of fault

abbrev pub transcript_reply : Result Position TranscriptFault → List ℕ
transcript_reply (Ok position) = board_line position
transcript_reply (Err fault) = transcript_fault_line_of fault

abbrev pub play_reply : Result Position GameFault → List ℕ
play_reply (Ok position) = board_line position
play_reply (Err fault) = game_fault_line_of fault
