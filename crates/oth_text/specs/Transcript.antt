-- Transcripts: the names of moves, one after the other, from the start of a game or from another position.
--     after_move p s      the position after a move to s, with a forced pass put in
--     AreLegal p moves      the moves are legal one after the other, from p on
--     after_moves p moves      the position that they lead to
--     transcript_of moves      their names
--     IsTranscriptFrom from text p      the text is a transcript that leads from a position to p
--     IsTranscriptFaultFrom from text f      the text is no transcript from that position, and this is its first fault
--     transcript_reading_from from text      the position that a transcript leads to from there, or the first fault of another text
--     IsTranscript, IsTranscriptFault, transcript_reading      of transcripts from the start of a game
use Rattle.std.specs.Prelude.{◌≡◌, ℕ, ◌+◌, ◌-◌, ◌*◌, ◌%◌, ◌==◌, ◌&&◌, nat_le, Bool, true, false, if◌then◌else◌, List}
use Rattle.std.specs.Prelude.{[], ◌∷◌, ◌++◌, length, fold, Option, Some, None, Result, Ok, Err, ⊤}
use Rattle.std.specs.List.{flat_map}
use Rattle.oth_rules.specs.Position.{pass}
use Rattle.oth_rules.specs.Move.{after, can_move, is_legal, is_over}
use Rattle.oth_rules.specs.Laws.{IsLegal}
use Rattle.oth_text.specs.Sides.{opponent, start}
use Rattle.oth_text.specs.Report.{square_name}
use Rattle.oth_text.specs.declared.position.Position.{Position}
use Rattle.oth_text.specs.declared.fault.TranscriptFault.{TranscriptFault}
use Rattle.oth_text.specs.declared.fault.TranscriptFault.TheVariants.{OddLength, BadPair, Illegal, Over}

-- the same discs, with the other side to move
abbrev pub passed : Position → Position
passed p = record { board = pass p.board; mover = opponent p.mover }

-- a side that can't move passes, where the other side can
unfoldable pub with_forced_pass : Position → Position
with_forced_pass p = if can_move p.board then p else if can_move (pass p.board) then passed p else p

unfoldable pub after_move : Position → ℕ → Position
after_move p s = with_forced_pass (record { board = after p.board s; mover = opponent p.mover })

abbrev pub AreLegal : Position → List ℕ → Type 0
AreLegal p [] = ⊤
AreLegal p (s ∷ moves) = IsLegal p.board s × AreLegal (after_move p s) moves

abbrev pub after_moves : Position → List ℕ → Position
after_moves p moves = fold after_move p moves

abbrev pub transcript_of : List ℕ → List ℕ
transcript_of moves = flat_map square_name moves

pub record IsTranscriptFrom (from : Position) (text : List ℕ) (p : Position) : Type 0 where
  pub moves : List ℕ
  pub names : text ≡ transcript_of moves
  pub legal : AreLegal from moves
  pub reached : p ≡ after_moves from moves

abbrev pub IsTranscript : List ℕ → Position → Type 0
IsTranscript text p = IsTranscriptFrom start text p

-- the mover can move, unless the game is over
abbrev pub MovesUnlessOver : Position → Type 0
MovesUnlessOver p = is_over p.board ≡ false → can_move p.board ≡ true

-- ---- faults

-- a letter from a to h and a digit from 1 to 8
abbrev pub is_square_name : ℕ → ℕ → Bool
is_square_name letter digit = (nat_le 97 letter && nat_le letter 104) && (nat_le 49 digit && nat_le digit 56)

-- the square of such a pair
abbrev pub square_of : ℕ → ℕ → ℕ
square_of letter digit = 8 * (digit - 49) + (letter - 97)

-- the faults of pair k at a position, each where none of those before it is there
abbrev pub IsPairFault : ℕ → Position → ℕ → ℕ → TranscriptFault → Type 0
IsPairFault k p letter digit OddLength = ⊥
IsPairFault k p letter digit (BadPair j) = (j ≡ k) × (is_square_name letter digit ≡ false)
IsPairFault k p letter digit (Over j) = (j ≡ k) × (is_square_name letter digit ≡ true) × (is_over p.board ≡ true)
IsPairFault k p letter digit (Illegal j) =
    (j ≡ k) × (is_square_name letter digit ≡ true) × (is_over p.board ≡ false) × (is_legal p.board (square_of letter digit) ≡ false)

-- behind legal moves comes a pair with this fault, counted from 1
pub record HasFaultyPair (from : Position) (text : List ℕ) (f : TranscriptFault) : Type 0 where
  pub even : length text % 2 ≡ 0
  pub moves : List ℕ
  pub letter : ℕ
  pub digit : ℕ
  pub others : List ℕ
  pub names : text ≡ transcript_of moves ++ letter ∷ digit ∷ others
  pub legal : AreLegal from moves
  pub fault : IsPairFault (1 + length moves) (after_moves from moves) letter digit f

-- the odd length comes first, then the pairs from the left
abbrev pub IsTranscriptFaultFrom : Position → List ℕ → TranscriptFault → Type 0
IsTranscriptFaultFrom from text OddLength = length text % 2 ≡ 1
IsTranscriptFaultFrom from text (BadPair k) = HasFaultyPair from text (BadPair k)
IsTranscriptFaultFrom from text (Illegal k) = HasFaultyPair from text (Illegal k)
IsTranscriptFaultFrom from text (Over k) = HasFaultyPair from text (Over k)

abbrev pub IsTranscriptFault : List ℕ → TranscriptFault → Type 0
IsTranscriptFault text f = IsTranscriptFaultFrom start text f

-- ---- the reading, as a function

-- the fault of pair k at a position, if it has one
abbrev pub pair_fault : ℕ → Position → ℕ → ℕ → Option TranscriptFault
pair_fault k p letter digit =
    if is_square_name letter digit then (if is_over p.board then Some (Over k)
    else (if is_legal p.board (square_of letter digit) then None else Some (Illegal k)))
    else Some (BadPair k)

-- the fault, if there is one, else what the rest leads to
abbrev pub or_fault : Option TranscriptFault → Result Position TranscriptFault → Result Position TranscriptFault
or_fault (Some fault) rest = Err fault
or_fault None rest = rest

-- the position after the pairs, from pair k on, or their first fault
unfoldable pub played : ℕ → Position → List ℕ → Result Position TranscriptFault
played k p [] = Ok p
played k p (letter ∷ []) = Err OddLength
played k p (letter ∷ digit ∷ rest) = or_fault (pair_fault k p letter digit) (played (k + 1) (after_move p (square_of letter digit)) rest)

unfoldable pub transcript_reading_from : Position → List ℕ → Result Position TranscriptFault
transcript_reading_from from text = if length text % 2 == 0 then played 1 from text else Err OddLength

-- the position that a transcript leads to from the start of a game, or the first fault of another text
abbrev pub transcript_reading : List ℕ → Result Position TranscriptFault
transcript_reading text = transcript_reading_from start text

-- ---- a transcript that is read in parts

-- what is kept of a transcript
pub record Reached : Type 0 where
  pub position : Position
  pub next_pair : ℕ
  pub fault : Option TranscriptFault
  pub pending : Option ℕ
  pub is_empty : Bool

-- what further pairs lead to
abbrev pub resumed : Option TranscriptFault → ℕ → Position → List ℕ → Result Position TranscriptFault
resumed (Some fault) k p rest = Err fault
resumed None k p rest = played k p rest

abbrev pub pending_bytes : Option ℕ → List ℕ
pending_bytes None = []
pending_bytes (Some b) = b ∷ []

abbrev pub is_nil : List ℕ → Bool
is_nil [] = true
is_nil (b ∷ bs) = false

-- what was kept stands for the text so far from a position on: whole pairs, and a byte of the next
pub record StandsFrom (from : Position) (kept : Reached) (text : List ℕ) : Type 0 where
  pub pairs : List ℕ
  pub text_is : text ≡ pairs ++ pending_bytes kept.pending
  pub even : length pairs % 2 ≡ 0
  pub leads : (rest : List ℕ) → played 1 from (pairs ++ rest) ≡ resumed kept.fault kept.next_pair kept.position rest
  pub empty : kept.is_empty ≡ is_nil text

abbrev pub StandsFor : Reached → List ℕ → Type 0
StandsFor kept text = StandsFrom start kept text
