-- What becomes of a book by the lines of an input.
use Rattle.std.proofs.Common.{◌≡◌, ◌<◌, ◌==◌, ℕ, List, [], ◌∷◌, ◌++◌, Bool, true, false, Result, Ok, Err, if◌then◌else◌, refl, sym, ap, ◌∙◌, append-nil, append_assoc, arith, All, OnOk, inl, inr}
use Rattle.std.proofs.lemmas.List.Elements.{All-push, Contains-append_left, Contains-append_right}
use Rattle.std.specs.Prelude.{nat_lt}
use Rattle.std.proofs.lemmas.Bool.{lt-ltb, ltb-true}
use Rattle.oth_rules.specs.Position.{empty_count}
use Rattle.oth_rules.specs.Symmetry.{canonical}
use Rattle.oth_search.specs.declared.bounds.answer.Answer.{Answer}
use Rattle.oth_text.specs.BoardLine.{KeepsLine, if_solvable, most_empties, reading, solvable_reading}
use Rattle.oth_text.specs.Transcript.{is_nil}
use Rattle.oth_text.specs.declared.fault.LineFault.{LineFault}
use Rattle.oth_text.specs.declared.fault.LineFault.TheVariants.{Empties}
use Rattle.oth_text.specs.declared.position.Position.{Position}
use Rattle.oth_book.specs.Add.{HasNoRoom, IsAbsent, Keeps}
use Rattle.oth_book.specs.Book.{IsTrueBook}
use Rattle.oth_book.specs.Contents.{Contents}
use Rattle.oth_book.specs.declared.add.AddError.{AddError}
use Rattle.oth_book.proofs.KeepLemmas.{exact_stays, keeps_same, keeps_trans}
use Rattle.oth_main.specs.Addition.{AnswersLine, FindsNoRoom, HasAdded, HasNoPlace, IsAdding, IsAnswered, IsRefusedLine, IsStatus, StopsBy, StopsReading}
use Rattle.oth_main.specs.declared.book.addition.Stop.{Stop}
use Rattle.oth_main.specs.declared.book.addition.Stop.TheVariants.{Run, Refused}
use Rattle.oth_run.specs.declared.fault.RunFault.TheVariants.{Read, Write, Workers, Cells}
use Rattle.oth_run.specs.Report.{Cut, cut, last_line, lines_of}
use Rattle.std.proofs.Common.{lit<}
use Rattle.oth_run.proofs.CutLemmas.{HasNoEnd, cut_part, cut_push, push}

-- ---- what a line is read as

solvable_is : (line : List ℕ) (r : Result Position LineFault) → reading line ≡ r → solvable_reading line ≡ if_solvable r
unfolding solvable_reading
solvable_is line r is = ap if_solvable is

by_count : (p : Position) (b : Bool) → nat_lt most_empties (empty_count p.board) ≡ b → if_solvable (Ok p) ≡ (if b then Err (Empties (empty_count p.board)) else Ok p)
by_count p b is = ap (λ (x : Bool). if x then Err (Empties (empty_count p.board)) else Ok p) is

few_or_many : (p : Position) → (30 < empty_count p.board → ⊥) → nat_lt most_empties (empty_count p.board) ≡ false
few_or_many p few = go (nat_lt most_empties (empty_count p.board)) refl
  where
    go : (b : Bool) → nat_lt most_empties (empty_count p.board) ≡ b → b ≡ false
    go true is = absurd (few (ltb-true 30 (empty_count p.board) is))
    go false is = refl

pub answers_fault : (line : List ℕ) (f : LineFault) → reading line ≡ Err f → AnswersLine (solvable_reading line) (Err f)
answers_fault line f is = rw (solvable_is line (Err f) is) refl

pub answers_many : (line : List ℕ) (p : Position) (n : ℕ) → reading line ≡ Ok p → n ≡ empty_count p.board → 30 < empty_count p.board → AnswersLine (solvable_reading line) (Err (Empties n))
answers_many line p n is count many = rw (solvable_is line (Ok p) is ∙ by_count p true (lt-ltb 30 (empty_count p.board) many)) (ap Empties count)

pub answers_few : (line : List ℕ) (p : Position) (a : Answer) → reading line ≡ Ok p → a.board ≡ p.board → (30 < empty_count p.board → ⊥) → AnswersLine (solvable_reading line) (Ok a)
answers_few line p a is same few = rw (solvable_is line (Ok p) is ∙ by_count p false (few_or_many p few)) same

pub no_place : (book : Contents) (line : List ℕ) (a : Answer) (why : AddError) → AnswersLine (solvable_reading line) (Ok a) → IsAbsent book a.board → HasNoRoom book.entries why → HasNoPlace book line
no_place book line a why answers absent room = go (solvable_reading line) refl answers
  where
    go : (r : Result Position LineFault) → solvable_reading line ≡ r → AnswersLine r (Ok a) → HasNoPlace book line
    go (Ok p) is same = record { position = p; shown = is; absent = rw (same) at absent; why = why; no_room = room }
    go (Err f) is same = absurd same

-- ---- an input, part by part

ended : (input : List ℕ) → cut (input ++ 10 ∷ []) ≡ record { lines = (cut input).lines ++ (cut input).rest ∷ []; rest = [] }
ended input = cut_push input 10

went_on : (input : List ℕ) (b : ℕ) → (b == 10) ≡ false → cut (input ++ b ∷ []) ≡ record { lines = (cut input).lines; rest = (cut input).rest ++ b ∷ [] }
went_on input b is = cut_push input b ∙ ap (λ q. push q (cut input) b) is

answered_stay : (old new : Contents) (lines : List (List ℕ)) → Keeps old new → IsTrueBook new → All (IsAnswered old) lines → All (IsAnswered new) lines
answered_stay old new lines kept holds each k line within p is = exact_stays old new (canonical p.board) kept holds (each k line within p is)

pub adding_none : (book : Contents) (kept : List ℕ) → IsTrueBook book → KeepsLine kept [] → IsAdding book book kept []
unfolding cut
adding_none book kept holds line = record {
  line = line;
  extends = record { kept = keeps_same book; holds = holds };
  answered = λ k l within. absurd (omega arith);
}

pub adding_ended : (before old new : Contents) (kept kept' input : List ℕ) → IsAdding before old kept input → Keeps old new → IsTrueBook new → KeepsLine kept' [] → IsAnswered new (cut input).rest
    → IsAdding before new kept' (input ++ 10 ∷ [])
adding_ended before old new kept kept' input so_far keeps holds line one = record {
  line = rw (ap (λ (c : Cut). c.rest) (ended input)) line;
  extends = record { kept = keeps_trans before old new so_far.extends.kept keeps; holds = holds };
  answered = rw (ap (λ (c : Cut). c.lines) (ended input)) (All-push (IsAnswered new) (cut input).lines (cut input).rest (answered_stay old new (cut input).lines keeps holds so_far.answered) one);
}

-- a part of a line goes on the line that has begun
pub adding_part : (before book : Contents) (kept kept' input part : List ℕ) → HasNoEnd part → IsAdding before book kept input → KeepsLine kept' ((cut input).rest ++ part)
    → IsAdding before book kept' (input ++ part)
adding_part before book kept kept' input part none so_far line = record {
  line = rw (ap (λ (c : Cut). c.rest) (cut_part input part none)) line;
  extends = so_far.extends;
  answered = rw (ap (λ (c : Cut). c.lines) (cut_part input part none)) so_far.answered;
}

-- the lines of an input whose last line was ended
pub lines_ended : (input : List ℕ) (b : Bool) → b ≡ is_nil (cut input).rest → b ≡ false → (cut (input ++ 10 ∷ [])).lines ≡ lines_of input
lines_ended input b is isnt = ap (λ (c : Cut). c.lines) (ended input) ∙ go (cut input).rest is
  where
    go : (rest : List ℕ) → b ≡ is_nil rest → (cut input).lines ++ rest ∷ [] ≡ (cut input).lines ++ last_line rest
    go [] is = absurd (let bad : true ≡ false = sym is ∙ isnt in cc)
    go (x ∷ xs) is = refl

pub lines_no_rest : (input : List ℕ) (b : Bool) → b ≡ is_nil (cut input).rest → b ≡ true → (cut input).lines ≡ lines_of input
lines_no_rest input b is empty = go (cut input).rest is
  where
    go : (rest : List ℕ) → b ≡ is_nil rest → (cut input).lines ≡ (cut input).lines ++ last_line rest
    go [] is = sym (append-nil _)
    go (x ∷ xs) is = absurd (let bad : false ≡ true = sym is ∙ empty in cc)

pub full_line : (before book : Contents) (kept input : List ℕ) → IsAdding before book kept input → HasNoPlace book (cut input).rest → FindsNoRoom before (cut (input ++ 10 ∷ [])).lines
full_line before book kept input so_far none = record {
  after = book;
  extends = so_far.extends;
  line = (cut input).rest;
  among = rw (ap (λ (c : Cut). c.lines) (ended input)) (Contains-append_right (cut input).lines ((cut input).rest ∷ []) (cut input).rest (0, lit< tt, refl));
  no_place = none;
}

-- among more lines
pub full_among : (before : Contents) (lines others : List (List ℕ)) → FindsNoRoom before lines → FindsNoRoom before (lines ++ others)
full_among before lines others full =
    record { after = full.after; extends = full.extends; line = full.line; among = Contains-append_left lines others full.line full.among; no_place = full.no_place }

-- further bytes add lines behind those that ended
lines_one : (xs : List ℕ) (b : ℕ) (q : Bool) → (b == 10) ≡ q → (others : List (List ℕ)) × ((cut (xs ++ b ∷ [])).lines ≡ (cut xs).lines ++ others)
lines_one xs b true is = ((cut xs).rest ∷ [], ap (λ (c : Cut). c.lines) (cut_push xs b ∙ ap (λ q. push q (cut xs) b) is))
lines_one xs b false is = ([], ap (λ (c : Cut). c.lines) (went_on xs b is) ∙ sym (append-nil _))

lines_grow : (xs ys : List ℕ) → (others : List (List ℕ)) × ((cut (xs ++ ys)).lines ≡ (cut xs).lines ++ others)
lines_grow xs [] = ([], ap (λ l. (cut l).lines) (append-nil xs) ∙ sym (append-nil _))
lines_grow xs (y ∷ ys) =
    let first = lines_one xs y (y == 10) refl in
    let more = lines_grow (xs ++ y ∷ []) ys in
    (first.0 ++ more.0, ap (λ l. (cut l).lines) (sym (append_assoc xs (y ∷ []) ys)) ∙ more.1 ∙ ap (λ l. l ++ more.0) first.1 ∙ append_assoc (cut xs).lines first.0 more.0)

pub full_more : (before : Contents) (xs ys : List ℕ) → FindsNoRoom before (cut xs).lines → FindsNoRoom before (cut (xs ++ ys)).lines
full_more before xs ys full = let grown = lines_grow xs ys in rw grown.1 (full_among before (cut xs).lines grown.0 full)

-- also as lines of the whole input
pub full_of : (before : Contents) (input : List ℕ) → FindsNoRoom before (cut input).lines → FindsNoRoom before (lines_of input)
full_of before input full = full_among before (cut input).lines (last_line (cut input).rest) full

-- a full line within further bytes
pub full_within : (before : Contents) (input bytes front line others : List ℕ) → bytes ≡ (front ++ line) ++ others → FindsNoRoom before (cut ((input ++ front) ++ line)).lines
    → FindsNoRoom before (cut (input ++ bytes)).lines
full_within before input bytes front line others same full =
    let joined : ((input ++ front) ++ line) ++ others ≡ input ++ bytes =
    ap (λ l. l ++ others) (append_assoc input front line) ∙ append_assoc input (front ++ line) others ∙ ap (λ l. input ++ l) (sym same) in
    rw joined at (full_more before ((input ++ front) ++ line) others full)

-- ---- the last line

pub added_none : (before book : Contents) (kept input : List ℕ) (b : Bool) → b ≡ is_nil (cut input).rest → b ≡ true → IsAdding before book kept input → HasAdded before book input
added_none before book kept input b is empty so_far = record { extends = so_far.extends; answered = rw (← lines_no_rest input b is empty) so_far.answered }

pub added_last : (before book : Contents) (kept input : List ℕ) (b : Bool) → b ≡ is_nil (cut input).rest → b ≡ false → IsAdding before book kept (input ++ 10 ∷ []) → HasAdded before book input
added_last before book kept input b is isnt so_far = record { extends = so_far.extends; answered = rw (← lines_ended input b is isnt) so_far.answered }

pub full_last : (before : Contents) (input : List ℕ) (b : Bool) → b ≡ is_nil (cut input).rest → b ≡ false → FindsNoRoom before (cut (input ++ 10 ∷ [])).lines → FindsNoRoom before (lines_of input)
full_last before input b is isnt full = rw (lines_ended input b is isnt) at full

-- ---- why it stops

pub stops_reading : (stop : Stop) (reader : Bool) (Full : Type 0) → IsRefusedLine stop → Full → StopsReading stop reader Full
stops_reading (Run fault) reader Full is full = absurd is
stops_reading (Refused line why) reader Full is full = full

pub stops_weaker : (stop : Stop) (reader : Bool) (Full Full' : Type 0) → (Full → Full') → StopsReading stop reader Full → StopsReading stop reader Full'
stops_weaker (Run Read) reader Full Full' f is = is
stops_weaker (Run Write) reader Full Full' f is = is
stops_weaker (Run Workers) reader Full Full' f is = is
stops_weaker (Run Cells) reader Full Full' f is = is
stops_weaker (Refused line why) reader Full Full' f is = f is

pub stops_by : (stop : Stop) (reader writer : Bool) (Untouched Full : Type 0) → StopsReading stop reader Full → Untouched → StopsBy stop reader writer Untouched Full
stops_by (Run Read) reader writer Untouched Full is same = (is, same)
stops_by (Run Write) reader writer Untouched Full is same = absurd is
stops_by (Run Workers) reader writer Untouched Full is same = is
stops_by (Run Cells) reader writer Untouched Full is same = is
stops_by (Refused line why) reader writer Untouched Full is same = (same, is)

-- what statuses 0 and 3 tell
pub is_done : (status : ℕ) (Done Failed Stopped : Type 0) → IsStatus status Done Failed Stopped → status ≡ 0 → Done
is_done status Done Failed Stopped (inl done) is = done.1
is_done status Done Failed Stopped (inr (inl failed)) is = absurd (omega (arith, failed.0, is))
is_done status Done Failed Stopped (inr (inr stopped)) is = absurd (omega (arith, stopped.0, is))

pub is_stopped : (status : ℕ) (Done Failed Stopped : Type 0) → IsStatus status Done Failed Stopped → status ≡ 3 → Stopped
is_stopped status Done Failed Stopped (inl done) is = absurd (omega (arith, done.0, is))
is_stopped status Done Failed Stopped (inr (inl failed)) is = absurd (omega (arith, failed.0, is))
is_stopped status Done Failed Stopped (inr (inr stopped)) is = stopped.1

-- two facts of an `Ok`
pub on_ok_both : {T E A B P : Type 0} (r : Result T E) → OnOk r A → OnOk r B → (A → B → P) → OnOk r P
on_ok_both (Ok x) a b f = f a b
on_ok_both (Err e) a b f = tt
