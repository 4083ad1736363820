-- Games from a board: a board line, alone or with a space and the transcript of the moves that are played on it.
--     has_moves line      a space stands behind the first 66 bytes
--     board_part line      what stands before that space; the whole line where there is none
--     moves_part line      what stands behind that space; nothing where there is none
--     IsGame line p      the line is a board line and legal moves from its position, which lead to p
--     IsGameFault line f      it is none, and this is its first fault
--     game_reading line      the position that a game leads to, or the first fault of another line
use Rattle.std.specs.Prelude.{◌≡◌, ℕ, ◌==◌, Bool, true, false, if◌then◌else◌, List, [], take, drop, slice_index_or, Result, Ok, Err}
use Rattle.oth_text.specs.BoardLine.{IsBoardLine, IsFirstFault, KeepsLine, reading}
use Rattle.oth_text.specs.Transcript.{IsTranscriptFaultFrom, IsTranscriptFrom, StandsFrom, transcript_reading_from, with_forced_pass}
use Rattle.oth_text.specs.declared.position.Position.{Position}
use Rattle.oth_text.specs.declared.fault.LineFault.{LineFault}
use Rattle.oth_text.specs.declared.fault.TranscriptFault.{TranscriptFault}
use Rattle.oth_text.specs.declared.fault.GameFault.{GameFault}
use Rattle.oth_text.specs.declared.fault.GameFault.TheVariants.{Board, Moves}
use Rattle.oth_text.specs.declared.game.GameReader.{GameReader}
use Rattle.oth_text.specs.declared.game.GameReader.TheVariants as reader

unfoldable pub has_moves : List ℕ → Bool
has_moves line = slice_index_or line 66 0 == 32

unfoldable pub board_part : List ℕ → List ℕ
board_part line = if has_moves line then take 66 line else line

unfoldable pub moves_part : List ℕ → List ℕ
moves_part line = if has_moves line then drop 67 line else []

-- where the mover can't move and the other side can, the moves begin behind a pass
pub record IsGame (line : List ℕ) (p : Position) : Type 0 where
  pub from : Position
  pub board : IsBoardLine (board_part line) from
  pub moves : IsTranscriptFrom (with_forced_pass from) (moves_part line) p

-- behind a board line there is no transcript, by this fault
pub record HasMovesFault (line : List ℕ) (f : TranscriptFault) : Type 0 where
  pub from : Position
  pub board : IsBoardLine (board_part line) from
  pub moves : IsTranscriptFaultFrom (with_forced_pass from) (moves_part line) f

-- the faults of the board come first
abbrev pub IsGameFault : List ℕ → GameFault → Type 0
IsGameFault line (Board f) = IsFirstFault (board_part line) f
IsGameFault line (Moves f) = HasMovesFault line f

-- ---- the reading, as a function

-- the reading of the moves as that of a game: its fault is the game's
abbrev pub of_moves : Result Position TranscriptFault → Result Position GameFault
of_moves (Ok p) = Ok p
of_moves (Err f) = Err (Moves f)

-- the moves on a board that was read
abbrev pub played_on : Result Position LineFault → List ℕ → Result Position GameFault
played_on (Ok p) moves = of_moves (transcript_reading_from (with_forced_pass p) moves)
played_on (Err f) moves = Err (Board f)

unfoldable pub game_reading : List ℕ → Result Position GameFault
game_reading line = played_on (reading (board_part line)) (moves_part line)

-- ---- a line that is read in parts

-- what was kept stands for the line so far
abbrev pub KeepsGame : GameReader → List ℕ → Type 0
KeepsGame (reader.Board kept) line = (has_moves line ≡ false) × KeepsLine kept line
KeepsGame (reader.Faulty f) line = (has_moves line ≡ true) × (reading (board_part line) ≡ Err f)
KeepsGame (reader.Moves kept) line =
    (has_moves line ≡ true) × (p : Position) × (reading (board_part line) ≡ Ok p) × StandsFrom (with_forced_pass p) kept (moves_part line)
