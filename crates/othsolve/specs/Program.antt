-- What the program has done at its end. Its input is known bytes `reader`, of which `reader'` are left; known bytes `writer` of its
-- output become `writer'`.
--     IsDone status      all was done: 0, or 4
--     lines_status telling found      the status of a report, by whether a line has a fault: 4 where one has and the words are strict
--     HasReported settings telling status reader reader' writer writer'      all input was read, the report of its lines was written, and
--         the status is `lines_status` of them
--     HasObeyed words status reader reader' writer writer'      `HasReported`, where the words ask for a report; `book-verify` read no
--         input, and told the number of entries of a true book; `book-add` read it all, and wrote the text of a true book, which extends
--         that of a file by the answers of its lines; these two have status 0
--     AreRefused words      the settings that the words give are refused
--     TellsFault status errors errors'      what known bytes `errors` of the error output become where a file can't be read: `run error 1`
--         is told at status 1, `book error 7` at 3
use Rattle.std.specs.Prelude.{◌≡◌, ◌⊎◌, ◌&&◌, ◌++◌, ◌∷◌, [], ℕ, Bool, List, Option, if◌then◌else◌, length}
use Rattle.std.specs.Io.KnownBytes.{Appends, Consumes, IsAtEnd}
use Rattle.oth_words.specs.declared.settings.Settings.{Settings}
use Rattle.oth_words.specs.declared.settings.Telling.{Telling}
use Rattle.oth_words.specs.declared.settings.Words.{Words}
use Rattle.oth_words.specs.declared.settings.Words.TheVariants.{Run, Verify, Add}
use Rattle.oth_run.specs.Faulty.{has_faulty}
use Rattle.oth_run.specs.Reply.{reply}
use Rattle.oth_run.specs.Report.{lines_of, report}
use Rattle.oth_run.specs.Run.{AreLawful}
use Rattle.oth_main.specs.Addition.{AddsTo}
use Rattle.oth_book.specs.declared.fault.BookFault.TheVariants.{Memory}
use Rattle.oth_main.specs.BookFile.{TellsBook}
use Rattle.oth_main.specs.Messages.{book_refusal, run_error}
use Rattle.oth_main.specs.declared.book.book_file.BookRefusal.TheVariants.{Text}
use Rattle.oth_run.specs.declared.fault.RunFault.TheVariants.{Read}

abbrev pub IsDone : ℕ → Type 0
IsDone status = (status ≡ 0) ⊎ (status ≡ 4)

abbrev pub lines_status : Telling → Bool → ℕ
lines_status telling found = if telling.is_strict && found then 4 else 0

pub record HasReported (settings : Settings) (telling : Telling) (status : ℕ)
    (reader reader' writer writer' : Option (List ℕ)) : Type 0 where
  pub input : List ℕ
  pub read : Consumes reader reader' input
  pub at_end : IsAtEnd reader'
  pub wrote : Appends writer writer' (report (reply settings) input)
  pub told : status ≡ lines_status telling (has_faulty settings.command (lines_of input))

abbrev pub HasObeyed : Words → ℕ → Option (List ℕ) → Option (List ℕ) → Option (List ℕ) → Option (List ℕ) → Type 0
HasObeyed (Run settings telling book files) status reader reader' writer writer' =
    HasReported settings telling status reader reader' writer writer'
HasObeyed (Verify telling name) status reader reader' writer writer' =
    (status ≡ 0) × (reader' ≡ reader) × ((file : List ℕ) × TellsBook file writer writer')
HasObeyed (Add settings telling name) status reader reader' writer writer' =
    (status ≡ 0) × ((file : List ℕ) × AddsTo file reader reader' writer writer')

-- how many files are named whose lines are reported
abbrev pub file_count : Words → ℕ
file_count (Run settings telling book files) = length files.items
file_count (Verify telling name) = 0
file_count (Add settings telling name) = 0

abbrev pub AreRefused : Words → Type 0
AreRefused (Run settings telling book files) = AreLawful settings → ⊥
AreRefused (Verify telling name) = ⊥
AreRefused (Add settings telling name) = AreLawful settings → ⊥

abbrev pub TellsFault : ℕ → Option (List ℕ) → Option (List ℕ) → Type 0
TellsFault status errors errors' = ((status ≡ 1) × Appends errors errors' (run_error Read ++ 10 ∷ []))
    ⊎ ((status ≡ 3) × Appends errors errors' (book_refusal (Text Memory) ++ 10 ∷ []))
