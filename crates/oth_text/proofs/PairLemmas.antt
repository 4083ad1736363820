-- A transcript, pair by pair.
use Rattle.std.proofs.Common.{◌≡◌, ◌+◌, ◌%◌, ◌==◌, ◌<◌, ◌≤◌, ℕ, List, [], ◌∷◌, ◌++◌, length, true, false, Option, Some, None, Ok, Err, refl, sym, ap, ◌∙◌, is_some, append_assoc, append-nil, arith}
use Rattle.std.specs.Prelude.{IsTrue}
use Rattle.std.proofs.lemmas.List.{length-append}
use Rattle.std.proofs.lemmas.Bool.{eq-eqb, ne_eqb}
use Rattle.oth_rules.specs.Square.{word_of}
use Rattle.oth_rules.specs.Position.{Position as Discs, empty_count, pass}
use Rattle.oth_rules.specs.Move.{after, can_move, is_legal, is_over}
use Rattle.oth_rules.proofs.Counts.{counts}
use Rattle.oth_rules.proofs.Scores.{cannot_move, does_move}
use Rattle.oth_rules.proofs.SearchLaws.{empty_count-after}
use Rattle.oth_text.specs.Sides.{opponent}
use Rattle.oth_text.specs.Transcript.{Reached, StandsFrom, after_move, is_nil, is_square_name, or_fault, pair_fault, pending_bytes}
use Rattle.oth_text.specs.Transcript.{played, resumed, square_of, transcript_reading_from, with_forced_pass}
use Rattle.oth_text.specs.declared.position.Side.{Side}
use Rattle.oth_text.specs.declared.position.Position.{Position}
use Rattle.oth_text.specs.declared.fault.TranscriptFault.{TranscriptFault}
use Rattle.oth_text.specs.declared.fault.TranscriptFault.TheVariants.{OddLength}

-- ---- bytes

is_nil_push : (text : List ℕ) (b : ℕ) → is_nil (text ++ b ∷ []) ≡ false
is_nil_push [] b = refl
is_nil_push (c ∷ text) b = refl

-- the second byte of a pair
pair_done : (from : Position) (kept kept' : Reached) (letter digit : ℕ) (text : List ℕ) → StandsFrom from kept text → kept.pending ≡ Some letter → kept'.pending ≡ None → kept'.is_empty ≡ false
    → ((rest : List ℕ) → resumed kept.fault kept.next_pair kept.position (letter ∷ digit ∷ rest) ≡ resumed kept'.fault kept'.next_pair kept'.position rest)
    → StandsFrom from kept' (text ++ digit ∷ [])
pair_done from kept kept' letter digit text so_far some none some_byte step = record {
  pairs = so_far.pairs ++ letter ∷ digit ∷ [];
  text_is = ap (λ t. t ++ digit ∷ []) (so_far.text_is ∙ ap (λ p. so_far.pairs ++ pending_bytes p) some) ∙ append_assoc so_far.pairs (letter ∷ []) (digit ∷ [])
      ∙ sym (append-nil (so_far.pairs ++ letter ∷ digit ∷ [])) ∙ ap (λ p. (so_far.pairs ++ letter ∷ digit ∷ []) ++ pending_bytes p) (sym none);
  even = let e = so_far.even in simp length-append (omega arith);
  leads = λ rest. ap (played 1 from) (append_assoc so_far.pairs (letter ∷ digit ∷ []) rest) ∙ so_far.leads (letter ∷ digit ∷ rest) ∙ step rest;
  empty = some_byte ∙ sym (is_nil_push text digit);
}

-- behind a fault
pub pair_passed : (from : Position) (kept kept' : Reached) (letter digit : ℕ) (text : List ℕ) → StandsFrom from kept text → kept.pending ≡ Some letter → kept'.pending ≡ None → kept'.is_empty ≡ false
    → is_some kept.fault ≡ true → kept'.fault ≡ kept.fault → StandsFrom from kept' (text ++ digit ∷ [])
pair_passed from kept kept' letter digit text so_far some none some_byte faulty same =
    pair_done from kept kept' letter digit text so_far some none some_byte (λ rest. passes kept.fault kept'.fault rest faulty same)
  where
    passes : (f g : Option TranscriptFault) (rest : List ℕ) → is_some f ≡ true → g ≡ f
        → resumed f kept.next_pair kept.position (letter ∷ digit ∷ rest) ≡ resumed g kept'.next_pair kept'.position rest
    passes None g rest faulty same = absurd (let bad : false ≡ true = faulty in cc)
    passes (Some f) g rest faulty same = rw same refl

-- a pair that is played, or is the first fault
pub pair_played : (from : Position) (kept kept' : Reached) (letter digit : ℕ) (text : List ℕ) → StandsFrom from kept text → kept.pending ≡ Some letter → kept'.pending ≡ None → kept'.is_empty ≡ false
    → is_some kept.fault ≡ false → kept'.fault ≡ pair_fault kept.next_pair kept.position letter digit
    → (kept'.fault ≡ None → (kept'.next_pair ≡ kept.next_pair + 1) × (kept'.position ≡ after_move kept.position (square_of letter digit)))
    → StandsFrom from kept' (text ++ digit ∷ [])
unfolding played
pair_played from kept kept' letter digit text so_far some none some_byte good is moved =
    pair_done from kept kept' letter digit text so_far some none some_byte (λ rest. plays kept.fault kept'.fault rest good is moved)
  where
    moves_on : (g : Option TranscriptFault) (rest : List ℕ) → (g ≡ None → (kept'.next_pair ≡ kept.next_pair + 1) × (kept'.position ≡ after_move kept.position (square_of letter digit)))
        → or_fault g (played (kept.next_pair + 1) (after_move kept.position (square_of letter digit)) rest) ≡ resumed g kept'.next_pair kept'.position rest
    moves_on None rest moved = let m = moved refl in rw (m.0, m.1) refl
    moves_on (Some f) rest moved = refl

    plays : (f g : Option TranscriptFault) (rest : List ℕ) → is_some f ≡ false → g ≡ pair_fault kept.next_pair kept.position letter digit
        → (g ≡ None → (kept'.next_pair ≡ kept.next_pair + 1) × (kept'.position ≡ after_move kept.position (square_of letter digit)))
        → resumed f kept.next_pair kept.position (letter ∷ digit ∷ rest) ≡ resumed g kept'.next_pair kept'.position rest
    plays (Some f) g rest good is moved = absurd (let bad : true ≡ false = good in cc)
    plays None g rest good is moved =
        ap (λ f. or_fault f (played (kept.next_pair + 1) (after_move kept.position (square_of letter digit)) rest)) (sym is) ∙ moves_on g rest moved

-- ---- the end of a transcript

pub at_odd : (from : Position) (kept : Reached) (text : List ℕ) → StandsFrom from kept text → is_some kept.pending ≡ true → Err OddLength ≡ transcript_reading_from from text
unfolding transcript_reading_from
at_odd from kept text so_far some =
    let odd : length text % 2 ≡ 1 = odd_length kept.pending some so_far.text_is in
    let test : (length text % 2 == 0) ≡ false = ne_eqb _ _ (λ e. absurd (omega arith)) in
    rw test refl
  where
    odd_length : (p : Option ℕ) → is_some p ≡ true → text ≡ so_far.pairs ++ pending_bytes p → length text % 2 ≡ 1
    odd_length None some is = absurd (let bad : false ≡ true = some in cc)
    odd_length (Some b) some is = let even = so_far.even in rw (is, length-append so_far.pairs (b ∷ [])) (omega arith)

no_pending : (p : Option ℕ) → is_some p ≡ false → p ≡ None
no_pending None h = refl
no_pending (Some b) h = absurd (let bad : true ≡ false = h in cc)

whole_pairs : (from : Position) (kept : Reached) (text : List ℕ) → StandsFrom from kept text → is_some kept.pending ≡ false
    → transcript_reading_from from text ≡ resumed kept.fault kept.next_pair kept.position []
unfolding transcript_reading_from
whole_pairs from kept text so_far none =
    let whole : text ≡ so_far.pairs ++ [] = so_far.text_is ∙ ap (λ p. so_far.pairs ++ pending_bytes p) (no_pending kept.pending none) in
    let len = ap length (whole ∙ append-nil so_far.pairs) in
    let even = so_far.even in
    let test : (length text % 2 == 0) ≡ true = eq-eqb _ _ (rw len even) in
    rw test (ap (played 1 from) whole ∙ so_far.leads [])

pub at_fault : (from : Position) (kept : Reached) (text : List ℕ) (f : TranscriptFault) → StandsFrom from kept text → is_some kept.pending ≡ false → kept.fault ≡ Some f
    → Err f ≡ transcript_reading_from from text
at_fault from kept text f so_far none is = sym (whole_pairs from kept text so_far none ∙ ap (λ g. resumed g kept.next_pair kept.position []) is)

pub at_end : (from : Position) (kept : Reached) (text : List ℕ) → StandsFrom from kept text → is_some kept.pending ≡ false → kept.fault ≡ None → Ok kept.position ≡ transcript_reading_from from text
unfolding played
at_end from kept text so_far none is = sym (whole_pairs from kept text so_far none ∙ ap (λ g. resumed g kept.next_pair kept.position []) is)

-- ---- moves

pub stays-moves : (p : Position) (w : ℕ) → w ≡ word_of (is_legal p.board) → (w ≡ 0 → ⊥) → p ≡ with_forced_pass p
unfolding with_forced_pass
stays-moves p w is some = rw (does_move p.board w is some) refl

pub stays-over : (p : Position) (b : Discs) (w v : ℕ) → w ≡ word_of (is_legal p.board) → w ≡ 0 → b ≡ pass p.board → v ≡ word_of (is_legal b) → v ≡ 0 → p ≡ with_forced_pass p
unfolding with_forced_pass
stays-over p b w v is none passes is_other no_other =
    let other : can_move (pass p.board) ≡ false = ap can_move (sym passes) ∙ cannot_move b v is_other no_other in
    rw (cannot_move p.board w is none, other) refl

pub passes_on : (p : Position) (b : Discs) (m : Side) (w v : ℕ) → w ≡ word_of (is_legal p.board) → w ≡ 0 → b ≡ pass p.board → v ≡ word_of (is_legal b) → (v ≡ 0 → ⊥) → m ≡ opponent p.mover
    → ◌≡◌ {A = Position} (record { board = b; mover = m }) (with_forced_pass p)
unfolding with_forced_pass
passes_on p b m w v is none passes is_other some turned =
    let other : can_move (pass p.board) ≡ true = ap can_move (sym passes) ∙ does_move b v is_other some in
    rw (cannot_move p.board w is none, other, passes, turned) refl

pub legal_pair : (k : ℕ) (p : Position) (b : Discs) (letter digit s : ℕ) → IsTrue (is_square_name letter digit) → s ≡ square_of letter digit → is_over p.board ≡ false
    → IsTrue (is_legal p.board s) → b ≡ after p.board s
    → (pair_fault k p letter digit ≡ None) × (s ≡ square_of letter digit) × (b ≡ after p.board (square_of letter digit))
legal_pair k p b letter digit s name is goes_on legal moved =
    let here : is_legal p.board (square_of letter digit) ≡ true = rw is at legal in
    (rw (name, goes_on, here) refl, is, moved ∙ ap (after p.board) is)

pub pair_moved : (p q : Position) (b : Discs) (m : Side) (s : ℕ) → b ≡ after p.board s → m ≡ opponent p.mover → q ≡ with_forced_pass (record { board = b; mover = m }) → q ≡ after_move p s
unfolding after_move
pair_moved p q b m s moved turned is_q = is_q ∙ rw (moved, turned) refl

pub fewer_empties : (p b : Discs) (s : ℕ) → s < 64 → IsTrue (is_legal p s) → b ≡ after p s → empty_count b + 1 ≡ empty_count p
fewer_empties p b s within legal is =
    let less = empty_count-after p s (record { on_board = within; legal = legal }) in
    let e = ap empty_count is in
    omega arith

pub no_more_empties : (b : Discs) → empty_count b ≤ 64
no_more_empties b = let all = counts b in omega arith
