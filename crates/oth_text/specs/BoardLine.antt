-- The board line: 64 cells row by row from a1, a space, and who moves; and the first fault of every other text.
--     cell_byte mover cell      X for a black disc, O for a white one, - for an empty square
--     board_line p      the board line of a position
--     IsBoardLine text p      the text is the board line of the position, by place
--     IsFirstFault text f      the text is no board line, and this is its first fault
--     reading text      the position of a board line, or the first fault of another text
--     IsSolvableLine, IsSolvableFault, solvable_reading      of board lines of boards of at most 30 empty squares
use Rattle.std.specs.Prelude.{◌≡◌, ◌≢◌, ℕ, ◌+◌, ◌-◌, ◌<◌, ◌≤◌, ◌==◌, ◌||◌, nat_lt, List, [], ◌∷◌, ◌++◌, map, Option, None}
use Rattle.std.specs.Prelude.{Some, Result, Ok, Err, length, take, slice_index, IsTrue, if◌then◌else◌, Bool}
use Rattle.oth_rules.specs.Square.{squares}
use Rattle.oth_rules.specs.Position.{Cell, Mine, Theirs, Empty, IsBoard, cell, position_of, empty_count}
use Rattle.oth_text.specs.declared.position.Side.{Side}
use Rattle.oth_text.specs.declared.position.Side.TheVariants.{Black, White}
use Rattle.oth_text.specs.declared.position.Position.{Position}
use Rattle.oth_text.specs.declared.fault.LineFault.{LineFault}
use Rattle.oth_text.specs.declared.fault.LineFault.TheVariants.{Length, BadCell, Space, Mover, Empties}
use Rattle.oth_text.specs.Sides.{opponent}

-- X for Black, O for White
abbrev pub side_byte : Side → ℕ
side_byte Black = 88
side_byte White = 79

abbrev pub cell_byte : Side → Cell → ℕ
cell_byte mover Mine = side_byte mover
cell_byte mover Theirs = side_byte (opponent mover)
cell_byte mover Empty = 45

unfoldable pub board_line : Position → List ℕ
board_line p = map (λ s. cell_byte p.mover (cell p.board s)) squares ++ 32 ∷ side_byte p.mover ∷ []

pub record IsBoardLine (text : List ℕ) (p : Position) : Type 0 where
  pub board : IsBoard p.board
  pub len : length text ≡ 66
  pub cells : (s : ℕ) → s < 64 → slice_index text s ≡ cell_byte p.mover (cell p.board s)
  pub space : slice_index text 64 ≡ 32
  pub mover : slice_index text 65 ≡ side_byte p.mover

-- ---- faults

-- the byte is X, O or -
abbrev pub is_cell : ℕ → Bool
is_cell b = b == 88 || b == 79 || b == 45

abbrev pub IsCell : ℕ → Type 0
IsCell b = IsTrue (is_cell b)

-- a text of 66 bytes whose first n are cells
pub record HasCells (text : List ℕ) (n : ℕ) : Type 0 where
  pub len : length text ≡ 66
  pub cells : (k : ℕ) → k < n → IsCell (slice_index text k)

-- cell p, counted from 1, is the leftmost bad one
pub record IsBadCell (text : List ℕ) (p : ℕ) : Type 0 where
  pub place : (0 < p) × (p ≤ 64)
  pub before : HasCells text (p - 1)
  pub bad : IsCell (slice_index text (p - 1)) → ⊥

-- the faults, each where none of those before it is there
abbrev pub IsFirstFault : List ℕ → LineFault → Type 0
IsFirstFault text Length = length text ≢ 66
IsFirstFault text (BadCell p) = IsBadCell text p
IsFirstFault text Space = HasCells text 64 × (slice_index text 64 ≢ 32)
IsFirstFault text Mover = HasCells text 64 × (slice_index text 64 ≡ 32) × (slice_index text 65 ≢ 88) × (slice_index text 65 ≢ 79)
IsFirstFault text (Empties n) = ⊥

-- ---- the reading, as a function

-- the leftmost bad cell, counted from k
abbrev pub first_bad : ℕ → List ℕ → Option ℕ
first_bad k [] = None
first_bad k (b ∷ bs) = if is_cell b then first_bad (k + 1) bs else Some k

-- the fault of byte 65, which should be a space, or of byte 66, which should be X or O, if there is one
abbrev pub fault_after_cells : ℕ → ℕ → Option LineFault
fault_after_cells space mover = if space == 32 then (if mover == 88 || mover == 79 then None else Some Mover) else Some Space

-- the fault of the bad cell at this place, if there is one, else the other fault, if there is one
abbrev pub cell_fault_or : Option ℕ → Option LineFault → Option LineFault
cell_fault_or (Some p) other = Some (BadCell p)
cell_fault_or None other = other

-- the first fault of a text that should be a board line, if it has one
unfoldable pub first_fault : List ℕ → Option LineFault
first_fault text =
    if length text == 66
    then cell_fault_or (first_bad 1 (take 64 text)) (fault_after_cells (slice_index text 64) (slice_index text 65))
    else Some Length

-- the side that the byte stands for: Black for X, else White
abbrev pub side_of : ℕ → Side
side_of b = if b == 88 then Black else White

-- the cell of a byte, as the mover sees it
abbrev pub cell_of : Side → ℕ → Cell
cell_of mover b = if b == side_byte mover then Mine else if b == side_byte (opponent mover) then Theirs else Empty

-- the position that a board line shows
unfoldable pub shown : List ℕ → Position
shown text =
    let mover = side_of (slice_index text 65) in
    record { board = position_of (λ s. cell_of mover (slice_index text s)); mover = mover }

-- the fault, if there is one, else the position
abbrev pub fault_or : Option LineFault → Position → Result Position LineFault
fault_or (Some fault) p = Err fault
fault_or None p = Ok p

unfoldable pub reading : List ℕ → Result Position LineFault
reading text = fault_or (first_fault text) (shown text)

-- ---- boards that are solved

-- a board is solved if at most this many squares are empty
abbrev pub most_empties : ℕ
most_empties = 30

pub record IsSolvableLine (text : List ℕ) (p : Position) : Type 0 where
  pub line : IsBoardLine text p
  pub few : empty_count p.board ≤ most_empties

-- the board line of a position with too many empty squares, n
pub record HasTooManyEmpties (text : List ℕ) (n : ℕ) : Type 0 where
  pub position : Position
  pub line : IsBoardLine text position
  pub counted : n ≡ empty_count position.board
  pub many : most_empties < n

abbrev pub IsSolvableFault : List ℕ → LineFault → Type 0
IsSolvableFault text Length = IsFirstFault text Length
IsSolvableFault text (BadCell p) = IsFirstFault text (BadCell p)
IsSolvableFault text Space = IsFirstFault text Space
IsSolvableFault text Mover = IsFirstFault text Mover
IsSolvableFault text (Empties n) = HasTooManyEmpties text n

-- the reading, with a fault in place of a board that has too many empty squares to be solved
abbrev pub if_solvable : Result Position LineFault → Result Position LineFault
if_solvable (Ok p) = if nat_lt most_empties (empty_count p.board) then Err (Empties (empty_count p.board)) else Ok p
if_solvable (Err fault) = Err fault

-- the position of a board line whose board can be solved, or the first fault of another text
unfoldable pub solvable_reading : List ℕ → Result Position LineFault
solvable_reading text = if_solvable (reading text)

-- ---- a line that is read in parts

-- what is kept of a line: as much of it as tells that it is too long
abbrev pub KeepsLine : List ℕ → List ℕ → Type 0
KeepsLine kept line = kept ≡ take 67 line
