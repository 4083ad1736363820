-- The lines that are printed of faults.
use Rattle.std.specs.Prelude.{ℕ, List, ◌++◌, codes, decimal}
use Rattle.oth_text.specs.declared.fault.LineFault.{LineFault}
use Rattle.oth_text.specs.declared.fault.LineFault.TheVariants.{Length, BadCell, Space, Mover, Empties}
use Rattle.oth_text.specs.declared.fault.TranscriptFault.{TranscriptFault}
use Rattle.oth_text.specs.declared.fault.TranscriptFault.TheVariants.{OddLength, BadPair, Illegal, Over}
use Rattle.oth_text.specs.declared.fault.GameFault.{GameFault}
use Rattle.oth_text.specs.declared.fault.GameFault.TheVariants.{Board, Moves}
use Rattle.oth_text.specs.declared.fault.Fault.{Fault}
use Rattle.oth_text.specs.declared.fault.Fault.TheVariants.{Game, Transcript}

-- what is told of a line that is no board line, or whose board has too many empty squares
abbrev pub fault_line_of : LineFault → List ℕ
fault_line_of Length = codes "error 1"
fault_line_of (BadCell place) = codes "error 2 at " ++ decimal place
fault_line_of Space = codes "error 3"
fault_line_of Mover = codes "error 4"
fault_line_of (Empties count) = codes "error 5 " ++ decimal count

-- what is told of a line that is no transcript
abbrev pub transcript_fault_line_of : TranscriptFault → List ℕ
transcript_fault_line_of OddLength = codes "error 1"
transcript_fault_line_of (BadPair pair) = codes "error 2 at " ++ decimal pair
transcript_fault_line_of (Illegal pair) = codes "error 3 at " ++ decimal pair
transcript_fault_line_of (Over pair) = codes "error 4 at " ++ decimal pair

-- what is told of the moves behind a board line, with numbers that no fault of the board has
abbrev pub moves_fault_line_of : TranscriptFault → List ℕ
moves_fault_line_of OddLength = codes "error 21"
moves_fault_line_of (BadPair pair) = codes "error 22 at " ++ decimal pair
moves_fault_line_of (Illegal pair) = codes "error 23 at " ++ decimal pair
moves_fault_line_of (Over pair) = codes "error 24 at " ++ decimal pair

-- what is told of a line that is no game from a board
abbrev pub game_fault_line_of : GameFault → List ℕ
game_fault_line_of (Board fault) = fault_line_of fault
game_fault_line_of (Moves fault) = moves_fault_line_of fault

-- what is told of a line of any command
abbrev pub any_fault_line_of : Fault → List ℕ
any_fault_line_of (Game fault) = game_fault_line_of fault
any_fault_line_of (Transcript fault) = transcript_fault_line_of fault
