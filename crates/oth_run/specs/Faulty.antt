-- Lines that have a fault.
--     first_fault command line      the fault with which the line is answered, if it has one; that of a game that is analysed stands
--         in one of the lines of its reply
--     is_faulty command line      the line has one
--     has_faulty command lines      one of the lines has one
use Rattle.std.specs.Prelude.{ℕ, Bool, List, Option, Some, None, Result, Ok, Err, is_some}
use Rattle.std.specs.List.{list_any}
use Rattle.oth_text.specs.Analysis.{fault_of, game_fault_of, transcript_fault_of}
use Rattle.oth_text.specs.BoardLine.{reading, solvable_reading}
use Rattle.oth_text.specs.Game.{game_reading}
use Rattle.oth_text.specs.Transcript.{transcript_reading}
use Rattle.oth_text.specs.declared.fault.Fault.{Fault}
use Rattle.oth_text.specs.declared.fault.Fault.TheVariants.{Game}
use Rattle.oth_text.specs.declared.fault.GameFault.TheVariants.{Board}
use Rattle.oth_text.specs.declared.fault.LineFault.{LineFault}
use Rattle.oth_text.specs.declared.position.Position.{Position}
use Rattle.oth_words.specs.declared.settings.Command.{Command}
use Rattle.oth_words.specs.declared.settings.Command.TheVariants.{Solve, Scores, Moves, Transcript, Play, Analyse}

-- the fault of a board line, as one of any line
abbrev pub of_board : LineFault → Fault
of_board fault = Game (Board fault)

-- a board line's first fault, if it has one
abbrev pub board_fault_of : Result Position LineFault → Option Fault
board_fault_of (Ok position) = None
board_fault_of (Err fault) = Some (of_board fault)

abbrev pub first_fault : Command → List ℕ → Option Fault
first_fault Solve line = board_fault_of (solvable_reading line)
first_fault Scores line = board_fault_of (solvable_reading line)
first_fault Moves line = board_fault_of (reading line)
first_fault Transcript line = transcript_fault_of (transcript_reading line)
first_fault Play line = game_fault_of (game_reading line)
first_fault (Analyse last) line = fault_of line

abbrev pub is_faulty : Command → List ℕ → Bool
is_faulty command line = is_some (first_fault command line)

abbrev pub has_faulty : Command → List (List ℕ) → Bool
has_faulty command lines = list_any (is_faulty command) lines
