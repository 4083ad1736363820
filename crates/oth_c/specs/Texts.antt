-- What the calls of texts answer.
--     line_code, line_place      of a board line that is read: the number of its first fault, or 0; and the place of a bad cell, or 0
--     transcript_code, transcript_place      of a transcript: the same, and the number of the faulty pair, or 0
--     game_reading c text      the position that a transcript leads to from there, or its first fault
--     game_code, game_place c text      of a transcript from a position: the position's first fault, or that of the moves
--     print_code c n      of a board line that is printed into n bytes
--     moves_line_code b n      of a moves line that is printed into n bytes
--     version_text      the library's version, and the toolchain's logic that its proofs are of
--     version_code n      of this text that is printed into n bytes
use Rattle.std.specs.Prelude.{ℕ, Result, Ok, Err, ◌==◌, nat_lt, length, List, codes, if◌then◌else◌}
use Rattle.oth_text.specs.declared.position.Position.{Position}
use Rattle.oth_text.specs.declared.fault.LineFault.{LineFault}
use Rattle.oth_text.specs.declared.fault.LineFault.TheVariants.{Length, BadCell, Space, Mover, Empties}
use Rattle.oth_text.specs.declared.fault.TranscriptFault.{TranscriptFault}
use Rattle.oth_text.specs.declared.fault.TranscriptFault.TheVariants.{OddLength, BadPair, Illegal, Over}
use Rattle.oth_text.specs.Report.{moves_line_of}
use Rattle.oth_text.specs.Transcript.{transcript_reading_from, with_forced_pass}
use Rattle.oth_c.specs.declared.board.OthBoard.{OthBoard}
use Rattle.oth_c.specs.declared.texts.position.OthPosition.{OthPosition}
use Rattle.oth_c.specs.declared.refusal.Refusal.TheVariants as refusal
use Rattle.oth_c.specs.Boards.{overlaps, position}
use Rattle.oth_c.specs.Codes.{code_of}
use Rattle.oth_c.specs.Positions.{position_code, shown}

abbrev pub line_code : Result Position LineFault → ℕ
line_code (Ok p) = 0
line_code (Err Length) = 11
line_code (Err (BadCell n)) = 12
line_code (Err Space) = 13
line_code (Err Mover) = 14
line_code (Err (Empties n)) = code_of refusal.Empties

abbrev pub line_place : Result Position LineFault → ℕ
line_place (Err (BadCell n)) = n
line_place _ = 0

abbrev pub transcript_code : Result Position TranscriptFault → ℕ
transcript_code (Ok p) = 0
transcript_code (Err OddLength) = 21
transcript_code (Err (BadPair n)) = 22
transcript_code (Err (Illegal n)) = 23
transcript_code (Err (Over n)) = 24

abbrev pub transcript_place : Result Position TranscriptFault → ℕ
transcript_place (Err (BadPair n)) = n
transcript_place (Err (Illegal n)) = n
transcript_place (Err (Over n)) = n
transcript_place _ = 0

-- where the mover can't move and the other side can, the moves begin behind a pass
abbrev pub game_reading : OthPosition → List ℕ → Result Position TranscriptFault
game_reading c text = transcript_reading_from (with_forced_pass (shown c)) text

abbrev pub game_code : OthPosition → List ℕ → ℕ
game_code c text = if position_code c == 0 then transcript_code (game_reading c text) else position_code c

abbrev pub game_place : OthPosition → List ℕ → ℕ
game_place c text = if position_code c == 0 then transcript_place (game_reading c text) else 0

abbrev pub print_code : OthPosition → ℕ → ℕ
print_code c n =
    if position_code c == 0 then (if nat_lt n 66 then code_of refusal.Room else 0) else position_code c

abbrev pub moves_line_code : OthBoard → ℕ → ℕ
moves_line_code b n =
    if overlaps b then code_of refusal.Overlap
    else if nat_lt n (length (moves_line_of (position b))) then code_of refusal.Room else 0

abbrev pub version_text : List ℕ
version_text = codes "0.2.0 (rattle logic dac8208d650f15bf)"

abbrev pub version_code : ℕ → ℕ
version_code n = if nat_lt n (length version_text) then code_of refusal.Room else 0
