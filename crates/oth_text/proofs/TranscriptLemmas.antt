-- Each text has one reading as a transcript.
use Rattle.std.proofs.Common.{◌≡◌, ◌+◌, ◌*◌, ◌%◌, ◌/◌, ◌<◌, ◌≤◌, ◌==◌, ◌&&◌, ℕ, suc, List, [], ◌∷◌, ◌++◌, length, Bool, true, false, Option, Some}
use Rattle.std.proofs.Common.{None, Result, Ok, Err, refl, sym, ap, ◌∙◌, append-nil, arith, inl, inr, subst, nat_le, IfOk, lit<}
use Rattle.std.specs.Prelude.{if◌then◌else◌}
use Rattle.std.proofs.lemmas.Bool.{cases_eq, eq-eqb, ne_eqb}
use Rattle.std.proofs.lemmas.Bool.Decides.{nat_tests}
use Rattle.oth_rules.specs.Square.{squares, has, directions, stepped, square_at, next, ray_from, ray, is_in}
use Rattle.oth_rules.specs.Move.{after, can_move, is_legal, is_over, is_flipped, flipped_along, outflanked, starts_with_mine}
use Rattle.oth_rules.specs.Position.{Position as Discs, cell, is_mine_cell, is_theirs_cell, is_empty_cell, is_mine, is_theirs, is_empty, pass}
use Rattle.oth_rules.specs.Laws.{IsLegal}
use Rattle.oth_rules.proofs.SearchLaws.{can_move-legal}
use Rattle.oth_text.specs.Sides.{opponent, start}
use Rattle.oth_text.specs.Transcript.{AreLegal, HasFaultyPair, MovesUnlessOver, with_forced_pass, IsPairFault, IsTranscriptFrom, IsTranscriptFaultFrom, after_move}
use Rattle.oth_text.specs.Transcript.{after_moves, is_square_name, or_fault, pair_fault, played, square_of, transcript_of, transcript_reading_from}
use Rattle.oth_text.specs.declared.position.Position.{Position}
use Rattle.oth_text.proofs.ReadingLemmas.{start-own, start-opp}
use Rattle.oth_text.specs.declared.fault.TranscriptFault.{TranscriptFault}
use Rattle.oth_text.specs.declared.fault.TranscriptFault.TheVariants.{OddLength, BadPair, Illegal, Over}

-- ---- names of squares

name_of_square : (s : ℕ) → s < 64 → is_square_name (97 + s % 8) (49 + s / 8) ≡ true
name_of_square s h = grind (arith, nat_tests)

square_of_name : (s : ℕ) → s < 64 → square_of (97 + s % 8) (49 + s / 8) ≡ s
square_of_name s h = omega arith

record IsName (letter digit : ℕ) : Type 0 where
  pub within : square_of letter digit < 64
  pub letter_is : letter ≡ 97 + square_of letter digit % 8
  pub digit_is : digit ≡ 49 + square_of letter digit / 8

in_columns : (letter digit : ℕ) → 97 ≤ letter → letter ≤ 104 → 49 ≤ digit → digit ≤ 56 → IsName letter digit
in_columns letter digit a b c d = record { within = omega arith; letter_is = omega arith; digit_is = omega arith }

le_test : (a b : ℕ) → nat_le a b ≡ true → a ≤ b
le_test a b h = grind (arith, nat_tests)

both : (x y : Bool) → (x && y) ≡ true → (x ≡ true) × (y ≡ true)
both true true h = (refl, refl)
both true false h = absurd (let bad : false ≡ true = h in cc)
both false y h = absurd (let bad : false ≡ true = h in cc)

is_name : (letter digit : ℕ) → is_square_name letter digit ≡ true → IsName letter digit
is_name letter digit h =
    let pair = both (nat_le 97 letter && nat_le letter 104) (nat_le 49 digit && nat_le digit 56) h in
    let column = both (nat_le 97 letter) (nat_le letter 104) pair.0 in
    let row = both (nat_le 49 digit) (nat_le digit 56) pair.1 in
    in_columns letter digit (le_test 97 letter column.0) (le_test letter 104 column.1) (le_test 49 digit row.0) (le_test digit 56 row.1)

-- ---- one pair

goes_on : (p : Position) (s : ℕ) → IsLegal p.board s → is_over p.board ≡ false
unfolding is_over
goes_on p s legal = rw (can_move-legal p.board s legal) refl

no_fault : (k : ℕ) (p : Position) (s : ℕ) → IsLegal p.board s → pair_fault k p (97 + s % 8) (49 + s / 8) ≡ None
no_fault k p s legal = rw (name_of_square s legal.on_board, goes_on p s legal, square_of_name s legal.on_board, legal.legal) refl

abbrev tests : (name over legal : Bool) (k : ℕ) → Option TranscriptFault
tests name over legal k = if name then (if over then Some (Over k) else (if legal then None else Some (Illegal k))) else Some (BadPair k)

pair_fault_none : (k : ℕ) (p : Position) (letter digit : ℕ) → pair_fault k p letter digit ≡ None → IsName letter digit × IsLegal p.board (square_of letter digit)
pair_fault_none k p letter digit h = go (is_square_name letter digit) (is_over p.board) (is_legal p.board (square_of letter digit)) refl refl h
  where
    go : (name over legal : Bool) → is_square_name letter digit ≡ name → is_legal p.board (square_of letter digit) ≡ legal → tests name over legal k ≡ None
        → IsName letter digit × IsLegal p.board (square_of letter digit)
    go true false true is_n is_l h = let n = is_name letter digit is_n in (n, record { on_board = n.within; legal = is_l })
    go true false false is_n is_l h = absurd (let bad : Some (Illegal k) ≡ None = h in cc)
    go true true legal is_n is_l h = absurd (let bad : Some (Over k) ≡ None = h in cc)
    go false over legal is_n is_l h = absurd (let bad : Some (BadPair k) ≡ None = h in cc)

-- a pair without a fault is a legal move
pub pair_is_legal : (k : ℕ) (p : Position) (letter digit : ℕ) → pair_fault k p letter digit ≡ None → IsLegal p.board (square_of letter digit)
pair_is_legal k p letter digit none = (pair_fault_none k p letter digit none).1

pair_fault_some : (k : ℕ) (p : Position) (letter digit : ℕ) (f : TranscriptFault) → pair_fault k p letter digit ≡ Some f → IsPairFault k p letter digit f
pair_fault_some k p letter digit f h = go (is_square_name letter digit) (is_over p.board) (is_legal p.board (square_of letter digit)) refl refl refl h
  where
    go : (name over legal : Bool) → is_square_name letter digit ≡ name → is_over p.board ≡ over → is_legal p.board (square_of letter digit) ≡ legal → tests name over legal k ≡ Some f
        → IsPairFault k p letter digit f
    go true false true is_n is_o is_l h = absurd (let bad : None ≡ Some f = h in cc)
    go true false false is_n is_o is_l h = let e : Some (Illegal k) ≡ Some f = h in let same : Illegal k ≡ f = cc in subst (IsPairFault k p letter digit) same (refl, is_n, is_o, is_l)
    go true true legal is_n is_o is_l h = let e : Some (Over k) ≡ Some f = h in let same : Over k ≡ f = cc in subst (IsPairFault k p letter digit) same (refl, is_n, is_o)
    go false over legal is_n is_o is_l h = let e : Some (BadPair k) ≡ Some f = h in let same : BadPair k ≡ f = cc in subst (IsPairFault k p letter digit) same (refl, is_n)

pair_fault_is : (k : ℕ) (p : Position) (letter digit : ℕ) (f : TranscriptFault) → IsPairFault k p letter digit f → pair_fault k p letter digit ≡ Some f
pair_fault_is k p letter digit OddLength h = absurd h
pair_fault_is k p letter digit (BadPair j) h = rw (h.1, h.0) refl
pair_fault_is k p letter digit (Over j) h = rw (h.1, h.2, h.0) refl
pair_fault_is k p letter digit (Illegal j) h = rw (h.1, h.2, h.3, h.0) refl

-- ---- all pairs

-- legal moves lead on
played_moves : (k : ℕ) (p : Position) (moves rest : List ℕ) → AreLegal p moves → played k p (transcript_of moves ++ rest) ≡ played (k + length moves) (after_moves p moves) rest
unfolding played
played_moves k p [] rest legal = let e : k ≡ k + 0 = omega arith in ap (λ n. played n p rest) e
played_moves k p (s ∷ moves) rest legal =
    let first = no_fault k p s legal.0 in
    let same = square_of_name s legal.0.on_board in
    let count : k + 1 + length moves ≡ k + suc (length moves) = omega arith in
    ap (λ f. or_fault f (played (k + 1) (after_move p (square_of (97 + s % 8) (49 + s / 8))) (transcript_of moves ++ rest))) first
    ∙ ap (λ t. played (k + 1) (after_move p t) (transcript_of moves ++ rest)) same
    ∙ played_moves (k + 1) (after_move p s) moves rest legal.1
    ∙ ap (λ n. played n (after_moves (after_move p s) moves) rest) count

record FailsFrom (k : ℕ) (p : Position) (text : List ℕ) (f : TranscriptFault) : Type 0 where
  pub moves : List ℕ
  pub letter : ℕ
  pub digit : ℕ
  pub others : List ℕ
  pub names : text ≡ transcript_of moves ++ letter ∷ digit ∷ others
  pub legal : AreLegal p moves
  pub fault : IsPairFault (k + length moves) (after_moves p moves) letter digit f

abbrev Says : ℕ → Position → List ℕ → Result Position TranscriptFault → Type 0
Says k p text (Ok q) = IsTranscriptFrom p text q
Says k p text (Err f) = FailsFrom k p text f

says_more : (k : ℕ) (p : Position) (letter digit : ℕ) (rest : List ℕ) (r : Result Position TranscriptFault) → IsName letter digit → IsLegal p.board (square_of letter digit)
    → Says (k + 1) (after_move p (square_of letter digit)) rest r → Says k p (letter ∷ digit ∷ rest) r
says_more k p letter digit rest (Ok q) name legal h = record {
  moves = square_of letter digit ∷ h.moves;
  names = ap (λ l. l ∷ digit ∷ rest) name.letter_is ∙ ap (λ d. (97 + square_of letter digit % 8) ∷ d ∷ rest) name.digit_is
      ∙ ap (λ t. (97 + square_of letter digit % 8) ∷ (49 + square_of letter digit / 8) ∷ t) h.names;
  legal = (legal, h.legal);
  reached = h.reached;
}
says_more k p letter digit rest (Err f) name legal h =
    let count : k + 1 + length h.moves ≡ k + suc (length h.moves) = omega arith in
    record {
      moves = square_of letter digit ∷ h.moves;
      letter = h.letter;
      digit = h.digit;
      others = h.others;
      names = ap (λ l. l ∷ digit ∷ rest) name.letter_is ∙ ap (λ d. (97 + square_of letter digit % 8) ∷ d ∷ rest) name.digit_is
          ∙ ap (λ t. (97 + square_of letter digit % 8) ∷ (49 + square_of letter digit / 8) ∷ t) h.names;
      legal = (legal, h.legal);
      fault = subst (λ n. IsPairFault n (after_moves (after_move p (square_of letter digit)) h.moves) h.letter h.digit f) count h.fault;
    }

says_first : (k : ℕ) (p : Position) (letter digit : ℕ) (rest : List ℕ) (o : Option TranscriptFault) (r : Result Position TranscriptFault) → pair_fault k p letter digit ≡ o
    → Says (k + 1) (after_move p (square_of letter digit)) rest r → Says k p (letter ∷ digit ∷ rest) (or_fault o r)
says_first k p letter digit rest (Some f) r is h = record {
  moves = [];
  letter = letter;
  digit = digit;
  others = rest;
  names = refl;
  legal = tt;
  fault = let e : k ≡ k + 0 = omega arith in subst (λ n. IsPairFault n p letter digit f) e (pair_fault_some k p letter digit f is);
}
says_first k p letter digit rest None r is h = let good = pair_fault_none k p letter digit is in says_more k p letter digit rest r good.0 good.1 h

played_says : (k : ℕ) (p : Position) (text : List ℕ) → length text % 2 ≡ 0 → Says k p text (played k p text)
unfolding played
played_says k p [] even = record { moves = []; names = refl; legal = tt; reached = refl }
played_says k p (b ∷ []) even = absurd (omega arith)
played_says k p (letter ∷ digit ∷ rest) even =
    says_first k p letter digit rest (pair_fault k p letter digit) (played (k + 1) (after_move p (square_of letter digit)) rest) refl
    (played_says (k + 1) (after_move p (square_of letter digit)) rest (omega arith))

-- ---- whole texts

length-transcript : (moves : List ℕ) → length (transcript_of moves) ≡ 2 * length moves
length-transcript [] = refl
length-transcript (s ∷ moves) = let rest = length-transcript moves in omega arith

even_test : (n : ℕ) → n % 2 ≡ 0 → (n % 2 == 0) ≡ true
even_test n h = eq-eqb _ _ h

reading-even : (from : Position) (text : List ℕ) → length text % 2 ≡ 0 → transcript_reading_from from text ≡ played 1 from text
unfolding transcript_reading_from
reading-even from text even = rw (even_test (length text) even) refl

reading-odd : (from : Position) (text : List ℕ) → length text % 2 ≡ 1 → transcript_reading_from from text ≡ Err OddLength
unfolding transcript_reading_from
reading-odd from text odd = let test : (length text % 2 == 0) ≡ false = ne_eqb _ _ (λ e. absurd (omega arith)) in rw test refl

pub reading_transcript : (from : Position) (text : List ℕ) (p : Position) → IsTranscriptFrom from text p → transcript_reading_from from text ≡ Ok p
unfolding played
reading_transcript from text p h =
    let count = length-transcript h.moves in
    let len = ap length h.names in
    reading-even from text (omega arith) ∙ ap (played 1 from) (h.names ∙ sym (append-nil (transcript_of h.moves)))
    ∙ played_moves 1 from h.moves [] h.legal ∙ ap (λ q. Ok q) (sym h.reached)

faulty_pair : (from : Position) (text : List ℕ) (f : TranscriptFault) → HasFaultyPair from text f → transcript_reading_from from text ≡ Err f
unfolding played
faulty_pair from text f h =
    reading-even from text h.even ∙ ap (played 1 from) h.names ∙ played_moves 1 from h.moves (h.letter ∷ h.digit ∷ h.others) h.legal
    ∙ ap (λ o. or_fault o (played (1 + length h.moves + 1) (after_move (after_moves from h.moves) (square_of h.letter h.digit)) h.others))
    (pair_fault_is (1 + length h.moves) (after_moves from h.moves) h.letter h.digit f h.fault)

pub reading_transcript_fault : (from : Position) (text : List ℕ) (f : TranscriptFault) → IsTranscriptFaultFrom from text f → transcript_reading_from from text ≡ Err f
reading_transcript_fault from text OddLength h = reading-odd from text h
reading_transcript_fault from text (BadPair k) h = faulty_pair from text (BadPair k) h
reading_transcript_fault from text (Illegal k) h = faulty_pair from text (Illegal k) h
reading_transcript_fault from text (Over k) h = faulty_pair from text (Over k) h

is_transcript_fault : (from : Position) (text : List ℕ) (f : TranscriptFault) → length text % 2 ≡ 0 → FailsFrom 1 from text f → IsTranscriptFaultFrom from text f
is_transcript_fault from text OddLength even h = absurd h.fault
is_transcript_fault from text (BadPair k) even h = record { even = even; moves = h.moves; letter = h.letter; digit = h.digit; others = h.others; names = h.names; legal = h.legal; fault = h.fault }
is_transcript_fault from text (Illegal k) even h = record { even = even; moves = h.moves; letter = h.letter; digit = h.digit; others = h.others; names = h.names; legal = h.legal; fault = h.fault }
is_transcript_fault from text (Over k) even h = record { even = even; moves = h.moves; letter = h.letter; digit = h.digit; others = h.others; names = h.names; legal = h.legal; fault = h.fault }

pub says_transcript : (from : Position) (text : List ℕ) (p : Position) → transcript_reading_from from text ≡ Ok p → IsTranscriptFrom from text p
says_transcript from text p h = elim (cases_eq (length text % 2) 0) [
  | inl even ↦ subst (Says 1 from text) (sym (reading-even from text even) ∙ h) (played_says 1 from text even)
  | inr odd ↦ let bad : ◌≡◌ {A = Result Position TranscriptFault} (Err OddLength) (Ok p) = sym (reading-odd from text (omega arith)) ∙ h in absurd (cc)
]

pub says_fault : (from : Position) (text : List ℕ) (f : TranscriptFault) → transcript_reading_from from text ≡ Err f → IsTranscriptFaultFrom from text f
says_fault from text f h = elim (cases_eq (length text % 2) 0) [
  | inl even ↦ is_transcript_fault from text f even (subst (Says 1 from text) (sym (reading-even from text even) ∙ h) (played_says 1 from text even))
  | inr odd ↦
      let is_odd : length text % 2 ≡ 1 = omega arith in
      let e : ◌≡◌ {A = Result Position TranscriptFault} (Err OddLength) (Err f) = sym (reading-odd from text is_odd) ∙ h in
      let same : OddLength ≡ f = cc in
      subst (IsTranscriptFaultFrom from text) same is_odd
]

-- ---- the mover

pub forced : (q : Position) → MovesUnlessOver (with_forced_pass q)
unfolding with_forced_pass is_over
forced q = go (can_move q.board) (can_move (pass q.board)) refl refl
  where
    go : (mine theirs : Bool) → can_move q.board ≡ mine → can_move (pass q.board) ≡ theirs → MovesUnlessOver (with_forced_pass q)
    go true theirs m t = rw m (λ open_game. m)
    go false true m t = rw (m, t) (λ open_game. t)
    go false false m t = rw (m, t) (λ open_game. absurd (let bad : true ≡ false = rw (m, t) at open_game in cc))

start_legal : (b : Discs) → b.own ≡ 0x0000_0008_1000_0000 → b.opp ≡ 0x0000_0010_0800_0000 → is_legal b 19 ≡ true
unfolding squares has directions stepped square_at next ray_from ray is_in cell is_mine_cell is_theirs_cell is_empty_cell is_mine is_theirs is_empty starts_with_mine outflanked
    flipped_along is_flipped is_legal
start_legal b own opp = rw (own, opp) refl

start_moves : can_move start.board ≡ true
start_moves = can_move-legal start.board 19 (record { on_board = lit< tt; legal = start_legal start.board start-own start-opp })

after_one : (p : Position) (s : ℕ) → MovesUnlessOver (after_move p s)
unfolding after_move
after_one p s = forced (record { board = after p.board s; mover = opponent p.mover })

moves_on : (p : Position) (moves : List ℕ) → MovesUnlessOver p → MovesUnlessOver (after_moves p moves)
moves_on p [] here = here
moves_on p (s ∷ moves) here = moves_on (after_move p s) moves (after_one p s)

pub transcript_mover : (from : Position) (text : List ℕ) (r : Result Position TranscriptFault) → MovesUnlessOver from → r ≡ transcript_reading_from from text → IfOk r (λ p. MovesUnlessOver p)
transcript_mover from text (Ok p) here is = let t = says_transcript from text p (sym is) in subst MovesUnlessOver (sym t.reached) (moves_on from t.moves here)
transcript_mover from text (Err f) here is = tt

pub start_mover : MovesUnlessOver start
start_mover = λ open_game. start_moves
