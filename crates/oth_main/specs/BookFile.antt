-- The book of a file, and what the commands of the book tell by their status.
--     IsRefusal file why      the bytes are no book's text, with their one fault; or they are one, and an entry is wrong, or there is
--         no memory for its entries
--     IsBookOf file book      the bytes are the text of this true book
--     IsRefused file      the bytes are refused, those of a true book when out of memory alone
--     KeepsRefusal file reason      the reason that is kept for words is why the bytes are refused
--     IsVerdict file status failed      the status of `book_verify`, whose writer has failed or not
--     TellsBook file writer writer'      the bytes are the text of a true book, and known bytes `writer` became `writer'` by the line
--         that tells its number of entries
use Rattle.std.specs.Prelude.{◌≡◌, ◌⊎◌, ◌++◌, ◌∷◌, [], ℕ, Bool, true, List, Option, Some, length}
use Rattle.std.specs.Io.KnownBytes.{Appends}
use Rattle.oth_book.specs.Book.{IsTrueBook}
use Rattle.oth_book.specs.Contents.{Contents, IsText}
use Rattle.oth_book.specs.Fault.{IsBookFault}
use Rattle.oth_book.specs.True.{IsWrong}
use Rattle.oth_book.specs.declared.fault.BookFault.TheVariants as faults
use Rattle.oth_book.specs.declared.wrong.Wrong.TheVariants as wrongs
use Rattle.oth_main.specs.Messages.{book_ok}
use Rattle.oth_main.specs.declared.book.book_file.BookRefusal.{BookRefusal}
use Rattle.oth_main.specs.declared.book.book_file.BookRefusal.TheVariants.{Text, Claim}
use Rattle.oth_main.specs.declared.book.reasons.Reason.{Reason}
use Rattle.oth_main.specs.declared.book.reasons.Reason.TheVariants as reasons

abbrev pub IsRefusal : List ℕ → BookRefusal → Type 0
IsRefusal file (Text fault) = IsBookFault file fault
IsRefusal file (Claim wrong) = (claims : Contents) × IsText claims file × IsWrong claims wrong

pub record IsBookOf (file : List ℕ) (book : Contents) : Type 0 where
  pub holds : IsTrueBook book
  pub text : IsText book file

abbrev pub IsBook : List ℕ → Type 0
IsBook file = (book : Contents) × IsBookOf file book

abbrev pub IsForMemory : BookRefusal → Type 0
IsForMemory (Text fault) = fault ≡ faults.Memory
IsForMemory (Claim wrong) = wrong ≡ wrongs.Memory

-- for a reason, which for the text of a true book is out of memory
abbrev pub IsRefused : List ℕ → Type 0
IsRefused file = (why : BookRefusal) × IsRefusal file why × (IsBook file → IsForMemory why)

pub record KeepsRefusal (file : List ℕ) (reason : Option Reason) : Type 0 where
  pub why : BookRefusal
  pub kept : reason ≡ Some (reasons.Book why)
  pub holds : IsRefusal file why

-- 0 of a true book, 1 where the writer has failed, 3 where the file is refused
abbrev pub IsVerdict : List ℕ → ℕ → Bool → Type 0
IsVerdict file status failed = ((status ≡ 0) × IsBook file) ⊎ (((status ≡ 1) × (failed ≡ true)) ⊎ ((status ≡ 3) × IsRefused file))

pub record TellsBook (file : List ℕ) (writer writer' : Option (List ℕ)) : Type 0 where
  pub book : Contents
  pub of_file : IsBookOf file book
  pub told : Appends writer writer' (book_ok (length book.entries) ++ 10 ∷ [])
