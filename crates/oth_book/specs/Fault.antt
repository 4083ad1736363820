-- The one fault of bytes that are no book's text, found from the left.
--     stand v count rest      what the rest begins with, as the line after this many entries
--     IsLineFault v count last rest fault      the fault of the line after `count` entries, the last of which is `last`
--     last_of before      the last entry
--     IsHeaderFault bytes fault      the fault of the header
--     IsBookFault bytes fault      the fault of the bytes
use Rattle.std.specs.Prelude.{◌≡◌, ◌≢◌, ℕ, ◌<◌, ◌+◌, ◌-◌, ◌==◌, ◌&&◌, ◌⊎◌, Bool, false, if◌then◌else◌}
use Rattle.std.specs.Prelude.{List, [], ◌∷◌, ◌++◌, length, slice_get, Option, Some}
use Rattle.oth_book.specs.declared.version.Version.{Version}
use Rattle.oth_book.specs.declared.claim.Claim.{Claim}
use Rattle.oth_book.specs.declared.fault.BookFault.{BookFault}
use Rattle.oth_book.specs.declared.fault.BookFault.TheVariants.{Header, Line, Order, Count, CutShort, Trailing, Memory}
use Rattle.oth_book.specs.declared.text.shape.Shape.TheVariants as shapes
use Rattle.oth_book.specs.declared.text.shape.Fit.{Fit}
use Rattle.oth_book.specs.declared.text.shape.Fit.TheVariants.{Whole, Cut, Misplaced}
use Rattle.oth_book.specs.Order.{IsBelow}
use Rattle.oth_book.specs.Shape.{header, is_cell, fit_of}
use Rattle.oth_book.specs.Text.{entry_line, end_line, lines, IsClaim, AreClaims}

pub data Stand : Type 0 where
  CutLine : Stand
  BadByte : Stand
  EntryLine : Stand
  EndLine : Stand
  OneTooMany : Stand

abbrev pub fitted : Fit → Stand → Stand
fitted Whole line = line
fitted Cut line = CutLine
fitted Misplaced line = BadByte

abbrev pub begins : (ℕ → Bool) → List ℕ → Bool
begins p [] = false
begins p (b ∷ bytes) = p b

abbrev pub end_stand : List ℕ → Stand
end_stand rest = fitted (fit_of shapes.End rest) EndLine

abbrev pub entry_stand : Version → List ℕ → Stand
entry_stand v rest = fitted (fit_of (shapes.Entry v) rest) EntryLine

-- a first byte E begins the end line, any other an entry's line
unfoldable pub stand : Version → ℕ → List ℕ → Stand
stand v count rest =
    if begins (λ b. b == 69) rest then end_stand rest
    else if count == 100000 && begins is_cell rest then OneTooMany
    else entry_stand v rest

-- the line of this entry is at the front
pub record IsEntryAt (v : Version) (rest : List ℕ) (c : Claim) : Type 0 where
  pub claim : IsClaim v c
  pub line : (after : List ℕ) × (rest ≡ entry_line v c ++ after)

abbrev pub last_of : List Claim → Option Claim
last_of before = slice_get before (length before - 1)

-- the entry's board is above that of the last one before, if there is one
abbrev pub IsAboveLast : Option Claim → Claim → Type 0
IsAboveLast last c = (d : Claim) → last ≡ Some d → IsBelow d.board c.board

-- the entry comes next, after `count` entries, the last of which is `last`
pub record IsNext (v : Version) (count : ℕ) (last : Option Claim) (rest : List ℕ) (c : Claim) : Type 0 where
  pub room : count < 100000
  pub entry : IsEntryAt v rest c
  pub above : IsAboveLast last c

abbrev pub IsLineFault : Version → ℕ → Option Claim → List ℕ → BookFault → Type 0
IsLineFault v count last rest Header = ⊥
IsLineFault v count last rest (Line k) =
    (k ≡ count + 1)
    × ((stand v count rest ≡ BadByte) ⊎ ((stand v count rest ≡ EntryLine) × ((c : Claim) → IsEntryAt v rest c → ⊥)))
IsLineFault v count last rest (Order k) =
    (k ≡ count + 1)
    × (stand v count rest ≡ EntryLine)
    × (c : Claim) × IsEntryAt v rest c × (IsAboveLast last c → ⊥)
IsLineFault v count last rest Count =
    (stand v count rest ≡ OneTooMany)
    ⊎ ((stand v count rest ≡ EndLine) × ((after : List ℕ) → rest ≢ end_line count ++ after))
IsLineFault v count last rest CutShort = stand v count rest ≡ CutLine
IsLineFault v count last rest Trailing = (after : List ℕ) × (rest ≡ end_line count ++ after) × (after ≢ [])
IsLineFault v count last rest Memory = (c : Claim) × IsNext v count last rest c

-- the bytes begin with the header and the lines of these entries
pub record Begins (v : Version) (before : List Claim) (rest bytes : List ℕ) : Type 0 where
  pub entries : AreClaims v before
  pub front : bytes ≡ header v ++ (lines v before ++ rest)

-- the bytes fit no version's header; or they end within one
abbrev pub IsHeaderFault : List ℕ → BookFault → Type 0
IsHeaderFault bytes Header = (v : Version) → fit_of (shapes.Header v) bytes ≡ Misplaced
IsHeaderFault bytes CutShort = (v : Version) × (fit_of (shapes.Header v) bytes ≡ Cut)
IsHeaderFault bytes _ = ⊥

abbrev pub IsBookFault : List ℕ → BookFault → Type 0
IsBookFault bytes fault =
    IsHeaderFault bytes fault
    ⊎ ((v : Version)
    × (before : List Claim)
    × (rest : List ℕ)
    × Begins v before rest bytes
    × IsLineFault v (length before) (last_of before) rest fault)
