-- A board line and the moves behind it.
use Rattle.std.proofs.Common.{◌≡◌, ◌+◌, ◌<◌, ◌≤◌, ◌==◌, ◌∙◌, ℕ, List, [], ◌∷◌, ◌++◌, true, false, Result, Ok, Err, length, take, drop, get_or, refl, sym, ap, arith, inl, inr, append_assoc}
use Rattle.std.proofs.lemmas.Bool.{cases_lt, eq-eqb, ne_eqb}
use Rattle.std.proofs.lemmas.List.{drop_all, drop_at, get_or-drop, get_or_append_left, get_or_at, length-append, length-take-le, take-append-drop, take_at}
use Rattle.oth_text.specs.BoardLine.{reading}
use Rattle.oth_text.specs.Transcript.{is_nil, played, transcript_reading_from, with_forced_pass}
use Rattle.oth_text.specs.Game.{IsGame, board_part, game_reading, has_moves, moves_part, of_moves, played_on}
use Rattle.oth_text.specs.declared.position.Position.{Position}
use Rattle.oth_text.specs.declared.fault.LineFault.{LineFault}
use Rattle.oth_text.specs.declared.fault.TranscriptFault.{TranscriptFault}
use Rattle.oth_text.specs.declared.fault.GameFault.TheVariants.{Board}
use Rattle.oth_text.proofs.ReadingLemmas.{reading_line}
use Rattle.oth_text.proofs.TranscriptLemmas.{reading_transcript}

-- ---- the parts

beyond : (line : List ℕ) → length line ≤ 66 → get_or line 66 0 ≡ 0
beyond line short = sym (get_or-drop 66 line 0 0) ∙ ap (λ (xs : List ℕ). get_or xs 0 0) (drop_all 66 line short)

pub no_moves_short : (line : List ℕ) → length line ≤ 66 → has_moves line ≡ false
unfolding has_moves
no_moves_short line short = ap (λ b. b == 32) (beyond line short)

pub has_moves_longer : (line : List ℕ) → has_moves line ≡ true → 66 < length line
has_moves_longer line has = elim (cases_lt 66 (length line)) [
  | inl l ↦ l
  | inr s ↦ absurd (let bad : false ≡ true = sym (no_moves_short line s) ∙ has in cc)
]

pub has_moves_more : (line more : List ℕ) → 66 < length line → has_moves (line ++ more) ≡ has_moves line
unfolding has_moves
has_moves_more line more l = ap (λ b. b == 32) (get_or_append_left line more 0 66 l)

pub has_moves_at : (front back : List ℕ) (b : ℕ) → length front ≡ 66 → has_moves (front ++ b ∷ back) ≡ (b == 32)
unfolding has_moves
has_moves_at front back b len = ap (λ c. c == 32) (get_or_at front b back 0 66 len)

pub at_space : (line : List ℕ) → get_or line 66 0 ≡ 32 → has_moves line ≡ true
unfolding has_moves
at_space line is = eq-eqb _ _ is

pub at_another_byte : (line : List ℕ) → (get_or line 66 0 ≡ 32 → ⊥) → has_moves line ≡ false
unfolding has_moves
at_another_byte line other = ne_eqb _ _ other

pub board_is : (line : List ℕ) → has_moves line ≡ true → board_part line ≡ take 66 line
unfolding board_part
board_is line has = rw has refl

pub board_alone : (line : List ℕ) → has_moves line ≡ false → board_part line ≡ line
unfolding board_part
board_alone line has = rw has refl

pub moves_are : (line : List ℕ) → has_moves line ≡ true → moves_part line ≡ drop 67 line
unfolding moves_part
moves_are line has = rw has refl

pub moves_none : (line : List ℕ) → has_moves line ≡ false → moves_part line ≡ []
unfolding moves_part
moves_none line has = rw has refl

-- ---- further bytes

-- behind the space
pub goes_on_behind : (line more : List ℕ) → has_moves line ≡ true
    → (has_moves (line ++ more) ≡ true) × (board_part (line ++ more) ≡ board_part line) × (moves_part (line ++ more) ≡ moves_part line ++ more)
goes_on_behind line more has =
    let longer = has_moves_longer line has in
    let still : has_moves (line ++ more) ≡ true = has_moves_more line more longer ∙ has in
    let parts = sym (take-append-drop 67 line) in
    let len : length (take 67 line) ≡ 67 = length-take-le 67 line longer in
    let whole : line ++ more ≡ take 67 line ++ (drop 67 line ++ more) = ap (λ xs. xs ++ more) parts ∙ append_assoc (take 67 line) (drop 67 line) more in
    let head = sym (take-append-drop 66 line) in
    let head_len : length (take 66 line) ≡ 66 = length-take-le 66 line (omega arith) in
    let head_whole : line ++ more ≡ take 66 line ++ (drop 66 line ++ more) = ap (λ xs. xs ++ more) head ∙ append_assoc (take 66 line) (drop 66 line) more in (
      still,
      board_is (line ++ more) still ∙ ap (take 66) head_whole ∙ take_at (take 66 line) (drop 66 line ++ more) 66 head_len ∙ sym (board_is line has),
      moves_are (line ++ more) still ∙ ap (drop 67) whole ∙ drop_at (take 67 line) (drop 67 line ++ more) 67 len ∙ ap (λ xs. xs ++ more) (sym (moves_are line has)),
    )

-- the space itself
pub begins : (line : List ℕ) → length line ≡ 66
    → (has_moves (line ++ 32 ∷ []) ≡ true) × (board_part (line ++ 32 ∷ []) ≡ line) × (moves_part (line ++ 32 ∷ []) ≡ [])
begins line len =
    let has : has_moves (line ++ 32 ∷ []) ≡ true = has_moves_at line [] 32 len in
    let all : length (line ++ 32 ∷ []) ≡ 67 = length-append line (32 ∷ []) ∙ ap (λ n. n + 1) len in (
      has,
      board_is (line ++ 32 ∷ []) has ∙ take_at line (32 ∷ []) 66 len,
      moves_are (line ++ 32 ∷ []) has ∙ drop_all 67 (line ++ 32 ∷ []) (omega arith),
    )

-- any other byte
pub goes_on_before : (line : List ℕ) (b : ℕ) → has_moves line ≡ false → ((b ≡ 32) → (length line ≡ 66) → ⊥) → has_moves (line ++ b ∷ []) ≡ false
goes_on_before line b has other = elim (cases_lt 66 (length line)) [
  | inl l ↦ has_moves_more line (b ∷ []) l ∙ has
  | inr s ↦ elim (cases_lt (length line) 66) [
    | inl l ↦ no_moves_short (line ++ b ∷ []) (let sum = length-append line (b ∷ []) in omega arith)
    | inr t ↦
        let len : length line ≡ 66 = omega arith in
        has_moves_at line [] b len ∙ ne_eqb b 32 (λ is. other is len)
  ]
]

pub not_nil : (line : List ℕ) → has_moves line ≡ true → is_nil line ≡ false
not_nil [] has = absurd (let longer = has_moves_longer [] has in omega arith)
not_nil (b ∷ line) has = refl

pub nothing : has_moves [] ≡ false
nothing = no_moves_short [] (omega arith)

-- ---- the reading

pub reads_alone : (line : List ℕ) → has_moves line ≡ false → game_reading line ≡ played_on (reading line) []
unfolding game_reading
reads_alone line has = rw (board_alone line has, moves_none line has) refl

pub reads_behind : (line : List ℕ) (r : Result Position LineFault) → reading (board_part line) ≡ r → game_reading line ≡ played_on r (moves_part line)
unfolding game_reading
reads_behind line r is = ap (λ (x : Result Position LineFault). played_on x (moves_part line)) is

-- the moves on a board that was read
pub moves_read : (line : List ℕ) (p : Position) (r : Result Position TranscriptFault) → reading (board_part line) ≡ Ok p
    → transcript_reading_from (with_forced_pass p) (moves_part line) ≡ r → game_reading line ≡ of_moves r
moves_read line p r is moves = reads_behind line (Ok p) is ∙ ap of_moves moves

-- no moves lead to the position itself
pub no_pairs : (p : Position) → transcript_reading_from p [] ≡ Ok p
unfolding transcript_reading_from played
no_pairs p = refl

pub alone_read : (line : List ℕ) (p : Position) → has_moves line ≡ false → reading line ≡ Ok p → game_reading line ≡ Ok (with_forced_pass p)
alone_read line p has is =
    reads_alone line has ∙ ap (λ (x : Result Position LineFault). played_on x []) is ∙ ap of_moves (no_pairs (with_forced_pass p))

pub alone_refused : (line : List ℕ) (f : LineFault) → has_moves line ≡ false → reading line ≡ Err f → game_reading line ≡ Err (Board f)
alone_refused line f has is = reads_alone line has ∙ ap (λ (x : Result Position LineFault). played_on x []) is

-- ---- the relations

pub game_is : (line : List ℕ) (p : Position) → IsGame line p → game_reading line ≡ Ok p
game_is line p h = moves_read line h.from (Ok p) (reading_line (board_part line) h.from h.board) (reading_transcript (with_forced_pass h.from) (moves_part line) p h.moves)
