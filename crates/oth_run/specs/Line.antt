-- The line that has begun, and what it is read as when it ends.
--     Keeps command kept text      what is kept of a line stands for the text, of which the command's reply is asked
--     Holds command line number text      as `Keeps`, of the line with this number
--     Reads command number text reading      the line with this number and text is read as that
use Rattle.std.specs.Prelude.{◌≡◌, ◌≢◌, ◌⊎◌, ℕ, List, Ok, Some}
use Rattle.oth_words.specs.declared.settings.Command.{Command}
use Rattle.oth_words.specs.declared.settings.Command.TheVariants.{Solve, Scores, Moves, Transcript, Play, Analyse}
use Rattle.oth_text.specs.Analysis.{KeepsAnalysed, fault_of}
use Rattle.oth_text.specs.BoardLine.{KeepsLine, solvable_reading}
use Rattle.oth_text.specs.BoardLine.{reading as board_reading}
use Rattle.oth_text.specs.Game.{KeepsGame, game_reading}
use Rattle.oth_text.specs.Transcript.{StandsFor, transcript_reading}
use Rattle.oth_text.specs.declared.position.Position.{Position}
use Rattle.oth_run.specs.declared.line.Kept.{Kept}
use Rattle.oth_run.specs.declared.line.Kept.TheVariants as kept
use Rattle.oth_run.specs.declared.line.Line.{Line}
use Rattle.oth_run.specs.declared.reading.Reading.{Reading}
use Rattle.oth_run.specs.declared.reading.Reading.TheVariants as reading
use Rattle.oth_run.specs.Faulty.{first_fault}

abbrev pub Keeps : Command → Kept → List ℕ → Type 0
Keeps command (kept.Solve reader) text = (command ≡ Solve) × KeepsLine reader text
Keeps command (kept.Scores reader) text = (command ≡ Scores) × KeepsLine reader text
Keeps command (kept.Moves reader) text = (command ≡ Moves) × KeepsLine reader text
Keeps command (kept.Transcript reader) text = (command ≡ Transcript) × StandsFor reader text
Keeps command (kept.Play reader) text = (command ≡ Play) × KeepsGame reader text
Keeps command (kept.Analyse reader last) text = (command ≡ Analyse last) × KeepsAnalysed reader text

abbrev pub Holds : Command → Line → ℕ → List ℕ → Type 0
Holds command line number text = (line.number ≡ number) × Keeps command line.kept text

-- the moves of a transcript, or those behind a board line, lead to the position
abbrev pub Reaches : Command → List ℕ → Position → Type 0
Reaches command text position =
    ((command ≡ Transcript) × (transcript_reading text ≡ Ok position)) ⊎ ((command ≡ Play) × (game_reading text ≡ Ok position))

abbrev pub Reads : Command → ℕ → List ℕ → Reading → Type 0
Reads command number text (reading.Solve asked) = (command ≡ Solve) × (solvable_reading text ≡ Ok asked.position)
Reads command number text (reading.Scores asked) = (command ≡ Scores) × (solvable_reading text ≡ Ok asked.position)
Reads command number text (reading.Moves position) = (command ≡ Moves) × (board_reading text ≡ Ok position)
Reads command number text (reading.Reached position) = Reaches command text position
Reads command number text (reading.Analyse game) =
    (command ≡ Analyse game.last) × (game.number ≡ number) × KeepsAnalysed game.reader.now text × (game.fault ≡ fault_of text)
Reads command number text (reading.Faulty fault) = ((last : ℕ) → command ≢ Analyse last) × (first_fault command text ≡ Some fault)
