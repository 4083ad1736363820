-- The analysis of a game: its last moves, each beside the best ones, and the discs that each side lost by them.
--     begins_board line      a board line begins, by X, O or -; every other line is a transcript
--     turns p text      the moves from p on that the text begins with, as far as they are legal, each followed by the pass that it forces
--     turns_of line      the turns of a game, behind the pass that its first position forces
--     is_told last t      at most `last` squares, and no more than a search takes, are empty before the turn
--     score_of_turn g t      the value after the turn under the scoring g, seen from who moved
--     turn_line n g t      the number of the line, that of the disc, who moves, the move, its score, and what `solve` reports of the board
--     lost_by side g turns      the discs by which a side's turns are worth less than the best ones
--     analysis_of n g last line      a line for each turn that is told, one for the game's fault, and one for what was lost
use Rattle.std.specs.Prelude.{ℕ, ℤ, ◌+◌, ◌-◌, ◌-ℤ◌, neg_ℤ, ◌≤◌, nat_le, ◌&&◌, Bool, if◌then◌else◌, List, [], ◌∷◌, ◌++◌, take}
use Rattle.std.specs.Prelude.{Option, Some, None}
use Rattle.std.specs.Prelude.{Result, Ok, Err, filter, codes, decimal, slice_index_or, unsigned_abs, ◌≡◌}
use Rattle.std.specs.List.{flat_map}
use Rattle.oth_rules.specs.Position.{empty_count, pass}
use Rattle.oth_rules.specs.Move.{after, can_move}
use Rattle.oth_rules.specs.Score.{score_of}
use Rattle.oth_rules.specs.Value.{value}
use Rattle.oth_rules.specs.declared.scoring.Scoring.{Scoring}
use Rattle.oth_text.specs.BoardLine.{is_cell, most_empties, reading, side_byte}
use Rattle.oth_text.specs.FaultLine.{any_fault_line_of}
use Rattle.oth_text.specs.Game.{KeepsGame, board_part, game_reading, moves_part}
use Rattle.oth_text.specs.Report.{report_line_of, score_text, square_name}
use Rattle.oth_text.specs.Sides.{opponent, start}
use Rattle.oth_text.specs.Transcript.{StandsFor, after_move, pair_fault, square_of, transcript_reading, with_forced_pass}
use Rattle.oth_text.specs.declared.analysis.Turn.{Turn}
use Rattle.oth_text.specs.declared.analysis_reader.AnalysisReader.{AnalysisReader}
use Rattle.oth_text.specs.declared.fault.Fault.{Fault}
use Rattle.oth_text.specs.declared.fault.Fault.TheVariants.{Game, Transcript}
use Rattle.oth_text.specs.declared.fault.GameFault.{GameFault}
use Rattle.oth_text.specs.declared.fault.LineFault.{LineFault}
use Rattle.oth_text.specs.declared.fault.TranscriptFault.{TranscriptFault}
use Rattle.oth_text.specs.declared.position.Position.{Position}
use Rattle.oth_text.specs.declared.position.Side.{Side}
use Rattle.oth_text.specs.declared.position.Side.TheVariants.{Black, White}

-- ---- the turns of a game

-- the turn in which the mover of p makes the move to s
abbrev pub move_turn : Position → ℕ → Turn
move_turn p s = record { before = p; played = Some s; after = after p.board s }

-- the turn in which the mover of p passes
abbrev pub pass_turn : Position → Turn
pass_turn p = record { before = p; played = None; after = pass p.board }

-- a side that can't move passes, where the other side can
unfoldable pub pass_turns : Position → List Turn
pass_turns p = if can_move p.board then [] else if can_move (pass p.board) then pass_turn p ∷ [] else []

-- the position after a move, before a pass is put in
abbrev pub moved : Position → ℕ → Position
moved p s = record { board = after p.board s; mover = opponent p.mover }

-- these turns, or none where there is a fault
abbrev pub unless_faulty : Option TranscriptFault → List Turn → List Turn
unless_faulty (Some fault) told = []
unless_faulty None told = told

unfoldable pub turns : Position → List ℕ → List Turn
turns p [] = []
turns p (letter ∷ []) = []
turns p (letter ∷ digit ∷ rest) =
    let s = square_of letter digit in
    unless_faulty (pair_fault 1 p letter digit) (move_turn p s ∷ (pass_turns (moved p s) ++ turns (after_move p s) rest))

unfoldable pub begins_board : List ℕ → Bool
begins_board line = is_cell (slice_index_or line 0 0)

-- the turns of a text from the position that was read, behind the pass that it forces; none where the board line has a fault
abbrev pub turns_from : Result Position LineFault → List ℕ → List Turn
turns_from (Ok p) text = pass_turns p ++ turns (with_forced_pass p) text
turns_from (Err fault) text = []

unfoldable pub turns_of : List ℕ → List Turn
turns_of line = if begins_board line then turns_from (reading (board_part line)) (moves_part line) else turns_from (Ok start) line

-- ---- what is told of them

unfoldable pub is_told : ℕ → Turn → Bool
is_told last t = let empties = empty_count t.before.board in nat_le empties last && nat_le empties most_empties

-- a search takes the board before the turn, and the one after it
pub record HasFewEmpties (t : Turn) : Type 0 where
  pub before : empty_count t.before.board ≤ most_empties
  pub after : empty_count t.after ≤ most_empties

-- the turns of the line's game that are told
unfoldable pub told_turns : ℕ → List ℕ → List Turn
told_turns last line = filter (is_told last) (turns_of line)

unfoldable pub score_of_turn : Scoring → Turn → ℤ
score_of_turn g t = neg_ℤ (value (score_of g) t.after)

-- the disc that is put first is number 1, and four lie there before; a pass has the number of the next one
abbrev pub disc_number : Turn → ℕ
disc_number t = 61 - empty_count t.before.board

-- the name of the square, or `pass`
abbrev pub name_played : Option ℕ → List ℕ
name_played (Some s) = square_name s
name_played None = codes "pass"

unfoldable pub turn_line : ℕ → Scoring → Turn → List ℕ
turn_line n g t =
    decimal n ++ 32 ∷ decimal (disc_number t) ++ 32 ∷ side_byte t.before.mover ∷ 32 ∷ name_played t.played
    ++ 32 ∷ score_text (score_of_turn g t) ++ 32 ∷ report_line_of g t.before.board

-- the discs by which the turn is worth less than the best one, under the scoring g
unfoldable pub loss : Scoring → Turn → ℕ
loss g t = unsigned_abs (value (score_of g) t.before.board -ℤ score_of_turn g t)

-- the number, where both sides are the same one, else 0
abbrev pub if_by : Side → Side → ℕ → ℕ
if_by Black Black n = n
if_by White White n = n
if_by Black White n = 0
if_by White Black n = 0

abbrev pub lost_by : Side → Scoring → List Turn → ℕ
lost_by side g [] = 0
lost_by side g (t ∷ turns) = if_by side t.before.mover (loss g t) + lost_by side g turns

-- the text that tells of line n how many discs Black and White lost
abbrev pub lost_text : ℕ → ℕ → ℕ → List ℕ
lost_text n black white = decimal n ++ codes " lost X " ++ decimal black ++ codes " O " ++ decimal white

-- as lost_text, of what each side lost by these turns
abbrev pub lost_line : ℕ → Scoring → List Turn → List ℕ
lost_line n g turns = lost_text n (lost_by Black g turns) (lost_by White g turns)

-- ---- the whole report

-- the line that tells this text of line n
abbrev pub numbered_line : ℕ → List ℕ → List ℕ
numbered_line n text = decimal n ++ 32 ∷ text ++ 10 ∷ []

-- a transcript's first fault, if it has one
abbrev pub transcript_fault_of : Result Position TranscriptFault → Option Fault
transcript_fault_of (Ok p) = None
transcript_fault_of (Err fault) = Some (Transcript fault)

-- the first fault of a board line with its moves, if it has one
abbrev pub game_fault_of : Result Position GameFault → Option Fault
game_fault_of (Ok p) = None
game_fault_of (Err fault) = Some (Game fault)

-- the fault of a game that is analysed: that of `play` or of `transcript`
unfoldable pub fault_of : List ℕ → Option Fault
fault_of line = if begins_board line then game_fault_of (game_reading line) else transcript_fault_of (transcript_reading line)

-- the line that tells the fault of line n, if it has one
abbrev pub fault_part : ℕ → Option Fault → List ℕ
fault_part n (Some fault) = numbered_line n (any_fault_line_of fault)
fault_part n None = []

-- as turn_line, with byte 10
abbrev pub turn_part : ℕ → Scoring → Turn → List ℕ
turn_part n g t = turn_line n g t ++ 10 ∷ []

unfoldable pub analysis_of : ℕ → Scoring → ℕ → List ℕ → List ℕ
analysis_of n g last line =
    flat_map (turn_part n g) (told_turns last line) ++ fault_part n (fault_of line) ++ lost_line n g (told_turns last line)

-- ---- a line that is read in parts

-- 67 bytes of a board line with its space, and 64 moves
abbrev pub front_len : ℕ
front_len = 195

-- what is kept of a line: its front, and its reading as a transcript and as a game from a board
pub record KeepsAnalysed (kept : AnalysisReader) (line : List ℕ) : Type 0 where
  pub front : kept.front.items ≡ take front_len line
  pub transcript : StandsFor kept.transcript line
  pub game : KeepsGame kept.game line
