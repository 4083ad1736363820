-- The lines that the commands of the book print, without their byte 10.
--     run_error fault      of the fault of a run
--     book_refusal why      why a file is no book, with the line or the entry that is to blame
--     book_ok count      of a true book of `count` entries
--     awaited command      of a command whose lines are read from the terminal
use Rattle.std.specs.Prelude.{ℕ, List, ◌++◌, Option, Some, None, codes, decimal}
use Rattle.oth_book.specs.Numbers.{fault_line, fault_number, wrong_entry, wrong_number}
use Rattle.oth_main.specs.declared.book.book_file.BookRefusal.{BookRefusal}
use Rattle.oth_main.specs.declared.book.book_file.BookRefusal.TheVariants.{Text, Claim}
use Rattle.oth_run.specs.Run.{number_of}
use Rattle.oth_words.specs.declared.settings.Command.{Command}
use Rattle.oth_words.specs.declared.settings.Command.TheVariants.{Solve, Scores, Moves, Transcript, Play, Analyse}
use Rattle.oth_run.specs.declared.fault.RunFault.{RunFault}

abbrev pub run_error : RunFault → List ℕ
run_error fault = codes "run error " ++ decimal (number_of fault)

abbrev pub placed : List ℕ → Option ℕ → List ℕ
placed told (Some place) = (told ++ codes " at ") ++ decimal place
placed told None = told

abbrev pub book_refusal : BookRefusal → List ℕ
book_refusal (Text fault) = placed (codes "book error " ++ decimal (fault_number fault)) (fault_line fault)
book_refusal (Claim wrong) = placed (codes "book wrong " ++ decimal (wrong_number wrong)) (wrong_entry wrong)

abbrev pub book_ok : ℕ → List ℕ
book_ok count = codes "book ok " ++ decimal count

abbrev pub awaited : Command → List ℕ
awaited Solve = codes "othsolve: reading boards from the terminal; end with Ctrl-D"
awaited Scores = codes "othsolve: reading boards from the terminal; end with Ctrl-D"
awaited Moves = codes "othsolve: reading boards from the terminal; end with Ctrl-D"
awaited Transcript = codes "othsolve: reading games from the terminal; end with Ctrl-D"
awaited (Analyse last) = codes "othsolve: reading games from the terminal; end with Ctrl-D"
awaited Play = codes "othsolve: reading boards with moves from the terminal; end with Ctrl-D"
