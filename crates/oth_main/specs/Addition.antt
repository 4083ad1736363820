-- What `book_add` does. An input is read from known bytes `reader`, of which `reader'` are left; known bytes `writer` become `writer'`.
--     AddsLines before reader reader' writer writer'      the input was read to its end, and the text of a book written that extends the
--         one before by the answers of its lines
--     FindsNoRoom before lines      the answer of one of these lines has no room in the book, or no memory
--     IsStatus status Done Failed Stopped      0, 1 or 3, with what it tells
--     IsAdding before book kept input      an addition halfway, after this input: the book so far, and what is kept of the line
--                                          that has begun
use Rattle.std.specs.Prelude.{◌≡◌, ◌⊎◌, ⊤, ℕ, Bool, true, List, ◌++◌, Option, Result, Ok, Err, All, Contains}
use Rattle.std.specs.Io.KnownBytes.{Appends, Consumes, IsAtEnd}
use Rattle.oth_rules.specs.Symmetry.{canonical}
use Rattle.oth_text.specs.BoardLine.{KeepsLine, solvable_reading}
use Rattle.oth_search.specs.declared.bounds.answer.Answer.{Answer}
use Rattle.oth_text.specs.declared.fault.LineFault.{LineFault}
use Rattle.oth_text.specs.declared.position.Position.{Position}
use Rattle.oth_book.specs.Add.{HasNoRoom, IsAbsent, Keeps}
use Rattle.oth_book.specs.Book.{HasExact, IsTrueBook}
use Rattle.oth_book.specs.Contents.{Contents, IsText, written}
use Rattle.oth_book.specs.declared.add.AddError.{AddError}
use Rattle.oth_main.specs.declared.book.addition.Stop.{Stop}
use Rattle.oth_main.specs.declared.book.addition.Stop.TheVariants.{Run, Refused}
use Rattle.oth_run.specs.declared.fault.RunFault.TheVariants.{Read, Write, Workers, Cells}
use Rattle.oth_main.specs.BookFile.{IsBookOf}
use Rattle.oth_run.specs.Report.{cut, lines_of}

-- a true book under the same scoring, with every board of the one before, whose bounds are at least as close
pub record Extends (before after : Contents) : Type 0 where
  pub kept : Keeps before after
  pub holds : IsTrueBook after

-- where the line shows a board that is solved, the book has its answer
abbrev pub IsAnswered : Contents → List ℕ → Type 0
IsAnswered book line = (p : Position) → solvable_reading line ≡ Ok p → HasExact book.entries (canonical p.board)

pub record AddsLines (before : Contents) (reader reader' writer writer' : Option (List ℕ)) : Type 0 where
  pub input : List ℕ
  pub read : Consumes reader reader' input
  pub at_end : IsAtEnd reader'
  pub after : Contents
  pub extends : Extends before after
  pub answered : All (IsAnswered after) (lines_of input)
  pub text : IsText after (written after)
  pub wrote : Appends writer writer' (written after)

-- the line shows a board that is solved and isn't in the book, which is full, or takes no more since there is no memory
pub record HasNoPlace (book : Contents) (line : List ℕ) : Type 0 where
  pub position : Position
  pub shown : solvable_reading line ≡ Ok position
  pub absent : IsAbsent book position.board
  pub why : AddError
  pub no_room : HasNoRoom book.entries why

pub record FindsNoRoom (before : Contents) (lines : List (List ℕ)) : Type 0 where
  pub after : Contents
  pub extends : Extends before after
  pub line : List ℕ
  pub among : Contains lines line
  pub no_place : HasNoPlace after line

-- the answer of one of the lines that were read has no room in the book, or no memory
pub record StopsFull (before : Contents) (reader reader' : Option (List ℕ)) : Type 0 where
  pub input : List ℕ
  pub read : Consumes reader reader' input
  pub full : FindsNoRoom before (lines_of input)

-- the bytes are the text of a true book, to which the answers of the lines were added
abbrev pub AddsTo : List ℕ → Option (List ℕ) → Option (List ℕ) → Option (List ℕ) → Option (List ℕ) → Type 0
AddsTo file reader reader' writer writer' = (before : Contents) × IsBookOf file before × AddsLines before reader reader' writer writer'

abbrev pub IsFullFor : List ℕ → Option (List ℕ) → Option (List ℕ) → Type 0
IsFullFor file reader reader' = (before : Contents) × IsBookOf file before × StopsFull before reader reader'

abbrev pub IsStatus : ℕ → Type 0 → Type 0 → Type 0 → Type 0
IsStatus status Done Failed Stopped = ((status ≡ 0) × Done) ⊎ (((status ≡ 1) × Failed) ⊎ ((status ≡ 3) × Stopped))

-- the reader has failed and the writer is untouched, or the writer has failed
abbrev pub DeviceFails : Bool → Bool → Type 0 → Type 0
DeviceFails reader writer Untouched = ((reader ≡ true) × Untouched) ⊎ (writer ≡ true)

-- ---- halfway

pub record IsAdding (before book : Contents) (kept input : List ℕ) : Type 0 where
  pub line : KeepsLine kept (cut input).rest
  pub extends : Extends before book
  pub answered : All (IsAnswered book) (cut input).lines

-- what a call makes of further bytes of the input, and what is found where it stops within them
abbrev pub AddsBytes : Contents → List ℕ → Contents → List ℕ → List ℕ → Type 0
AddsBytes book kept book' kept' bytes =
    (before : Contents) (input : List ℕ) → IsAdding before book kept input → IsAdding before book' kept' (input ++ bytes)

abbrev pub IsFullWithin : Contents → List ℕ → List ℕ → Type 0
IsFullWithin book kept bytes =
    (before : Contents) (input : List ℕ) → IsAdding before book kept input → FindsNoRoom before (cut (input ++ bytes)).lines

-- all lines of the input are answered
pub record HasAdded (before book : Contents) (input : List ℕ) : Type 0 where
  pub extends : Extends before book
  pub answered : All (IsAnswered book) (lines_of input)

-- the input that was read, of which this holds
abbrev pub OfInput : Option (List ℕ) → Option (List ℕ) → (List ℕ → Type 0) → Type 0
OfInput reader reader' P = (input : List ℕ) × Consumes reader reader' input × P input

-- what a line is read as, and its answer
abbrev pub AnswersLine : Result Position LineFault → Result Answer LineFault → Type 0
AnswersLine (Ok p) (Ok a) = a.board ≡ p.board
AnswersLine (Ok p) (Err f) = ⊥
AnswersLine (Err g) (Ok a) = ⊥
AnswersLine (Err g) (Err f) = f ≡ g

-- why an addition stopped while it read
abbrev pub StopsReading : Stop → Bool → Type 0 → Type 0
StopsReading (Run Read) reader Full = reader ≡ true
StopsReading (Run Write) reader Full = ⊥
StopsReading (Run Workers) reader Full = ⊥
StopsReading (Run Cells) reader Full = ⊥
StopsReading (Refused line why) reader Full = Full

-- why it stopped, by whether the devices have failed
abbrev pub StopsBy : Stop → Bool → Bool → Type 0 → Type 0 → Type 0
StopsBy (Run Read) reader writer Untouched Full = (reader ≡ true) × Untouched
StopsBy (Run Write) reader writer Untouched Full = writer ≡ true
StopsBy (Run Workers) reader writer Untouched Full = ⊥
StopsBy (Run Cells) reader writer Untouched Full = ⊥
StopsBy (Refused line why) reader writer Untouched Full = Untouched × Full

-- the answer of a line isn't taken
abbrev pub IsRefusedLine : Stop → Type 0
IsRefusedLine (Run fault) = ⊥
IsRefusedLine (Refused line why) = ⊤
