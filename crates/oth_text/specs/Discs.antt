-- What the private helpers of board lines compute, over the words of black and of white discs.
--     AreSquaresOf cells byte word      the word's squares are those of the cells that are this byte
--     disc_byte black white s      X for a black disc on square s, O for a white one, - for none
use Rattle.std.specs.Prelude.{◌≡◌, ℕ, ◌<◌, ◌==◌, List, get_or, slice_index, if◌then◌else◌}
use Rattle.std.specs.Int.{bit_at}
use Rattle.oth_text.specs.declared.fault.LineFault.{LineFault}
use Rattle.oth_text.specs.declared.fault.LineFault.TheVariants.{BadCell}
use Rattle.oth_text.specs.BoardLine.{IsBadCell}

abbrev pub disc_byte : ℕ → ℕ → ℕ → ℕ
disc_byte black white s = if bit_at black s == 1 then 88 else (if bit_at white s == 1 then 79 else 45)

-- the first 64 bytes are the discs of the words
abbrev pub ShowsDiscs : List ℕ → ℕ → ℕ → Type 0
ShowsDiscs text black white = (s : ℕ) → s < 64 → slice_index text s ≡ disc_byte black white s

-- the word has the squares whose cells are this byte
abbrev pub AreSquaresOf : List ℕ → ℕ → ℕ → Type 0
AreSquaresOf cells byte word = (s : ℕ) → s < 64 → bit_at word s ≡ (if get_or cells s 0 == byte then 1 else 0)

-- a fault of a cell
abbrev pub IsCellFault : List ℕ → LineFault → Type 0
IsCellFault text (BadCell place) = IsBadCell text place
IsCellFault text _ = ⊥
