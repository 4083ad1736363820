-- The turns of a game, and the lines of them.
use Rattle.std.proofs.Common.{◌≡◌, ◌+◌, ◌*◌, ◌<◌, ◌≤◌, ◌++◌, ◌∷◌, [], ◌∙◌, ◌==◌, ℕ, zero, suc, ℤ, List, Bool, true, false, ◌&&◌, Option, Some, None, Result, Ok, Err}
use Rattle.std.proofs.Common.{length, take, drop, filter, get_or, slice_index_or, refl, sym, ap, arith, append_assoc, append-nil, subst, nat_le, if◌then◌else◌, inl, inr}
use Rattle.std.proofs.Common.{ap₂, pos, negsuc, ◌-ℤ◌, ◌≤ℤ◌, to_z, of_z, w8, w16, unsigned_abs}
use Rattle.std.proofs.lemmas.Bool.{cases_lt, and_parts, le-leb, leb-true, lt-leb}
use Rattle.std.proofs.lemmas.Int.{ints}
use Rattle.std.proofs.lemmas.List.{drop-take, get_or-take, take-take}
use Rattle.std.specs.Prelude.{All}
use Rattle.std.specs.List.{AllByRecursion}
use Rattle.std.proofs.lemmas.List.Elements.{All-from_recursion}
use Rattle.std.proofs.Math.Seq.{take-nil}
use Rattle.std.proofs.lemmas.List.Elements.{filter-append}
use Rattle.oth_rules.specs.Position.{Position as Discs, empty_count, pass}
use Rattle.oth_rules.specs.Move.{can_move}
use Rattle.oth_rules.specs.Score.{score_of}
use Rattle.oth_rules.specs.Value.{value}
use Rattle.oth_rules.specs.declared.scoring.Scoring.{Scoring}
use Rattle.oth_rules.specs.Laws.{IsScore}
use Rattle.oth_rules.proofs.Scores.{kept}
use Rattle.oth_rules.proofs.SearchLaws.{IsScore-value, empty_count-after, empty_count-pass}
use Rattle.oth_text.specs.BoardLine.{is_cell, most_empties, reading}
use Rattle.oth_text.specs.Game.{board_part, game_reading, has_moves, moves_part}
use Rattle.oth_text.specs.Sides.{start}
use Rattle.oth_text.specs.Analysis.{HasFewEmpties, begins_board, fault_of, front_len, game_fault_of, told_turns, transcript_fault_of, turns_from, turns_of}
use Rattle.oth_text.specs.Analysis.{is_told, loss, move_turn, moved, pass_turn, pass_turns, score_of_turn, turns, unless_faulty}
use Rattle.oth_text.specs.Transcript.{after_move, pair_fault, passed, square_of, transcript_reading, with_forced_pass}
use Rattle.oth_text.specs.declared.analysis.Turn.{Turn}
use Rattle.oth_text.specs.declared.fault.TranscriptFault.{TranscriptFault}
use Rattle.oth_text.specs.declared.fault.GameFault.{GameFault}
use Rattle.oth_text.specs.declared.fault.LineFault.{LineFault}
use Rattle.oth_text.specs.declared.position.Position.{Position}
use Rattle.oth_text.proofs.GameLemmas.{board_alone, board_is, moves_are, moves_none}
use Rattle.oth_text.proofs.KeptLemmas.{reading-front}
use Rattle.oth_text.proofs.PairLemmas.{no_more_empties}
use Rattle.oth_text.proofs.TranscriptLemmas.{pair_is_legal}

-- ---- which are told

pub told-yes : (last : ℕ) (t : Turn) → empty_count t.before.board ≤ last → empty_count t.before.board ≤ 30 → is_told last t ≡ true
unfolding is_told
told-yes last t few most = rw (le-leb _ _ few, le-leb _ _ most) refl

pub told-many : (last : ℕ) (t : Turn) → last < empty_count t.before.board → is_told last t ≡ false
unfolding is_told
told-many last t many = rw (lt-leb (empty_count t.before.board) last many) refl

pub told-none : (last : ℕ) (t : Turn) → 30 < empty_count t.before.board → is_told last t ≡ false
unfolding is_told
told-none last t many = go (nat_le (empty_count t.before.board) last)
  where
    go : (a : Bool) → (a && nat_le (empty_count t.before.board) most_empties) ≡ false
    go true = lt-leb (empty_count t.before.board) most_empties many
    go false = refl

pub told-one : (last : ℕ) (t : Turn) (b : Bool) → is_told last t ≡ b → filter (is_told last) (t ∷ []) ≡ (if b then t ∷ [] else [])
told-one last t b is = ap (λ (x : Bool). if x then t ∷ [] else []) is

-- ---- passes

pub no-pass-moves : (p : Position) → can_move p.board ≡ true → pass_turns p ≡ []
unfolding pass_turns
no-pass-moves p can = rw can refl

pub no-pass-over : (p : Position) → can_move p.board ≡ false → can_move (pass p.board) ≡ false → pass_turns p ≡ []
unfolding pass_turns
no-pass-over p cannot other = rw (cannot, other) refl

pub one-pass : (p : Position) → can_move p.board ≡ false → can_move (pass p.board) ≡ true → pass_turns p ≡ pass_turn p ∷ []
unfolding pass_turns
one-pass p cannot other = rw (cannot, other) refl

-- ---- a step

empty_count-forced : (p : Position) → empty_count (with_forced_pass p).board ≡ empty_count p.board
unfolding with_forced_pass
empty_count-forced p = go (can_move p.board) (can_move (pass p.board))
  where
    go : (a b : Bool) → empty_count (if a then p else if b then passed p else p).board ≡ empty_count p.board
    go true b = refl
    go false true = empty_count-pass p.board
    go false false = refl

-- a move takes an empty square
pub fewer-after : (p : Position) (letter digit : ℕ) → pair_fault 1 p letter digit ≡ None → empty_count (after_move p (square_of letter digit)).board + 1 ≡ empty_count p.board
unfolding after_move
fewer-after p letter digit none =
    let less = empty_count-after p.board (square_of letter digit) (pair_is_legal 1 p letter digit none) in
    let same = empty_count-forced (moved p (square_of letter digit)) in
    omega arith

no-turns : (p : Position) (letter digit : ℕ) (ts : List Turn) → empty_count p.board ≡ 0 → [] ≡ unless_faulty (pair_fault 1 p letter digit) ts
no-turns p letter digit ts full = go (pair_fault 1 p letter digit) refl
  where
    go : (f : Option TranscriptFault) → pair_fault 1 p letter digit ≡ f → [] ≡ unless_faulty f ts
    go (Some f) is = refl
    go None is = absurd (let less = fewer-after p letter digit is in omega arith)

-- the moves of a position stand in the front of the text
pub turns-take : (k : ℕ) (p : Position) (text : List ℕ) → 2 * empty_count p.board ≤ k → turns p (take k text) ≡ turns p text
unfolding turns
turns-take zero p [] few = refl
turns-take (suc k) p [] few = refl
turns-take zero p (letter ∷ []) few = refl
turns-take (suc k) p (letter ∷ []) few = ap (turns p) (ap (λ xs. letter ∷ xs) (take-nil k))
turns-take zero p (letter ∷ digit ∷ rest) few = no-turns p letter digit _ (omega arith)
turns-take (suc zero) p (letter ∷ digit ∷ rest) few = no-turns p letter digit _ (omega arith)
turns-take (suc (suc k)) p (letter ∷ digit ∷ rest) few = go (pair_fault 1 p letter digit) refl (λ less. turns-take k (after_move p (square_of letter digit)) rest less)
  where
    go : (f : Option TranscriptFault) → pair_fault 1 p letter digit ≡ f
        → (2 * empty_count (after_move p (square_of letter digit)).board ≤ k → turns (after_move p (square_of letter digit)) (take k rest) ≡ turns (after_move p (square_of letter digit)) rest)
        → turns p (letter ∷ digit ∷ take k rest) ≡ turns p (letter ∷ digit ∷ rest)
    go (Some f) is later = rw is refl
    go None is later = rw is (ap (λ ts. move_turn p (square_of letter digit) ∷ (pass_turns (moved p (square_of letter digit)) ++ ts))
        (later (let less = fewer-after p letter digit is in omega arith)))

-- ---- a search takes the boards that are told

abbrev HasNoMore : Turn → Type 0
HasNoMore t = empty_count t.after ≤ empty_count t.before.board

each-append : (xs ys : List Turn) → AllByRecursion HasNoMore xs → AllByRecursion HasNoMore ys → AllByRecursion HasNoMore (xs ++ ys)
each-append [] ys first second = second
each-append (x ∷ xs) ys first second = (first.0, each-append xs ys first.1 second)

no-more-passes : (p : Position) → AllByRecursion HasNoMore (pass_turns p)
unfolding pass_turns
no-more-passes p = go (can_move p.board) (can_move (pass p.board))
  where
    go : (a b : Bool) → AllByRecursion HasNoMore (if a then [] else if b then pass_turn p ∷ [] else [])
    go true b = tt
    go false true = (let same = empty_count-pass p.board in omega arith, tt)
    go false false = tt

no-more-turns : (p : Position) (text : List ℕ) → AllByRecursion HasNoMore (turns p text)
unfolding turns
no-more-turns p [] = tt
no-more-turns p (letter ∷ []) = tt
no-more-turns p (letter ∷ digit ∷ rest) = go (pair_fault 1 p letter digit) refl (no-more-turns (after_move p (square_of letter digit)) rest)
  where
    go : (f : Option TranscriptFault) → pair_fault 1 p letter digit ≡ f → AllByRecursion HasNoMore (turns (after_move p (square_of letter digit)) rest)
        → AllByRecursion HasNoMore
        (unless_faulty f (move_turn p (square_of letter digit) ∷ (pass_turns (moved p (square_of letter digit)) ++ turns (after_move p (square_of letter digit)) rest)))
    go (Some f) is later = tt
    go None is later =
        let less = empty_count-after p.board (square_of letter digit) (pair_is_legal 1 p letter digit is) in
        (omega arith, each-append (pass_turns (moved p (square_of letter digit))) (turns (after_move p (square_of letter digit)) rest) (no-more-passes (moved p (square_of letter digit))) later)

told-few : (last : ℕ) (t : Turn) → is_told last t ≡ true → empty_count t.before.board ≤ 30
unfolding is_told
told-few last t told = leb-true (empty_count t.before.board) most_empties (and_parts (nat_le (empty_count t.before.board) last) (nat_le (empty_count t.before.board) most_empties) told).1

few-told : (last : ℕ) (ts : List Turn) → AllByRecursion HasNoMore ts → AllByRecursion HasFewEmpties (filter (is_told last) ts)
few-told last [] each = tt
few-told last (t ∷ ts) each = go (is_told last t) refl (few-told last ts each.1)
  where
    go : (b : Bool) → is_told last t ≡ b → AllByRecursion HasFewEmpties (filter (is_told last) ts) → AllByRecursion HasFewEmpties (if b then t ∷ filter (is_told last) ts else filter (is_told last) ts)
    go true is rest = let few = told-few last t is in let no_more = each.0 in (record { before = few; after = omega arith }, rest)
    go false is rest = rest

pub all-few : (last : ℕ) (p : Position) (text : List ℕ) (told : List Turn) → told ≡ filter (is_told last) (turns_from (Ok p) text) → All HasFewEmpties told
all-few last p text told are = subst (All HasFewEmpties) (sym are) (All-from_recursion HasFewEmpties _
    (few-told last (turns_from (Ok p) text) (each-append (pass_turns p) (turns (with_forced_pass p) text) (no-more-passes p) (no-more-turns (with_forced_pass p) text))))

-- ---- the turns of a text, pair by pair

-- a pair that is a legal move
pub turns-step : (p : Position) (rest pair others : List ℕ) → pair ≡ take 2 rest → others ≡ drop 2 rest → 2 ≤ length rest
    → let s = square_of (slice_index_or pair 0 0) (slice_index_or pair 1 0) in
    pair_fault 1 p (slice_index_or pair 0 0) (slice_index_or pair 1 0) ≡ None
    → turns p rest ≡ move_turn p s ∷ (pass_turns (moved p s) ++ turns (after_move p s) others)
unfolding turns
turns-step p [] pair others front back long none = absurd (omega arith)
turns-step p (letter ∷ []) pair others front back long none = absurd (omega arith)
turns-step p (letter ∷ digit ∷ rest) pair others front back long none =
    let is : pair_fault 1 p letter digit ≡ None = rw front at none in
    rw (front, back, is) refl

-- a pair that is none
pub turns-stop : (p : Position) (rest pair : List ℕ) (f : TranscriptFault) → pair ≡ take 2 rest → 2 ≤ length rest
    → pair_fault 1 p (slice_index_or pair 0 0) (slice_index_or pair 1 0) ≡ Some f → turns p rest ≡ []
unfolding turns
turns-stop p [] pair f front long some = absurd (omega arith)
turns-stop p (letter ∷ []) pair f front long some = absurd (omega arith)
turns-stop p (letter ∷ digit ∷ rest) pair f front long some =
    let is : pair_fault 1 p letter digit ≡ Some f = rw front at some in
    rw is refl

-- no pair
pub turns-short : (p : Position) (rest : List ℕ) → length rest < 2 → turns p rest ≡ []
unfolding turns
turns-short p [] short = refl
turns-short p (letter ∷ []) short = refl
turns-short p (letter ∷ digit ∷ rest) short = absurd (omega arith)

-- the turns that were told so far, and those of the rest

pub told-first : (last : ℕ) (p q : Position) (text : List ℕ) (none told : List Turn) → none ≡ [] → told ≡ none ++ filter (is_told last) (pass_turns p) → q ≡ with_forced_pass p
    → filter (is_told last) (pass_turns p ++ turns (with_forced_pass p) text) ≡ told ++ filter (is_told last) (turns q text)
told-first last p q text none told empty is forced =
    filter-append (is_told last) (pass_turns p) (turns (with_forced_pass p) text)
    ∙ rw (forced, is, empty) refl

pub told-more : (last : ℕ) (all told told1 told2 : List Turn) (p m q : Position) (s : ℕ) (rest others : List ℕ) → all ≡ told ++ filter (is_told last) (turns p rest)
    → turns p rest ≡ move_turn p s ∷ (pass_turns (moved p s) ++ turns (after_move p s) others)
    → told1 ≡ told ++ filter (is_told last) (move_turn p s ∷ []) → told2 ≡ told1 ++ filter (is_told last) (pass_turns m) → m ≡ moved p s → q ≡ with_forced_pass m
    → all ≡ told2 ++ filter (is_told last) (turns q others)
unfolding after_move
told-more last all told told1 told2 p m q s rest others so_far step first second is forced =
    let f = filter (is_told last) in
    let t = move_turn p s in
    let later = turns (after_move p s) others in
    let whole : f (turns p rest) ≡ f (t ∷ []) ++ (f (pass_turns (moved p s)) ++ f later) =
    ap f step ∙ filter-append (is_told last) (t ∷ []) (pass_turns (moved p s) ++ later)
    ∙ ap (λ ts. f (t ∷ []) ++ ts) (filter-append (is_told last) (pass_turns (moved p s)) later) in
    let next : turns q others ≡ later = ap (λ x. turns x others) (forced ∙ ap with_forced_pass is) in
    so_far ∙ ap (λ ts. told ++ ts) whole ∙ sym (append_assoc told (f (t ∷ [])) (f (pass_turns (moved p s)) ++ f later))
    ∙ ap (λ ts. ts ++ (f (pass_turns (moved p s)) ++ f later)) (sym first)
    ∙ sym (append_assoc told1 (f (pass_turns (moved p s))) (f later))
    ∙ ap (λ ts. ts ++ f later) (ap (λ x. told1 ++ f (pass_turns x)) (sym is) ∙ sym second)
    ∙ ap (λ ts. told2 ++ f ts) (sym next)

pub told-last : (last : ℕ) (all told : List Turn) (p : Position) (rest : List ℕ) → all ≡ told ++ filter (is_told last) (turns p rest) → turns p rest ≡ [] → told ≡ all
told-last last all told p rest so_far none = sym (so_far ∙ ap (λ ts. told ++ filter (is_told last) ts) none ∙ append-nil told)

-- at most two turns are told of each empty square, and one before them
pub record HasRoom (told empties : ℕ) : Type 0 where
  pub few : empties ≤ 31 → told + 2 * empties ≤ 63
  pub many : 31 < empties → told ≤ 1

pub room-first : (told empties : ℕ) → told ≤ 1 → HasRoom told empties
room-first told empties one = record { few = λ few. omega arith; many = λ many. one }

pub room-more : (told told1 told2 empties fewer : ℕ) → HasRoom told empties → fewer + 1 ≡ empties → told1 ≤ told + 1 → (30 < empties → told1 ≡ told) → told2 ≤ told1 + 1
    → (30 < fewer → told2 ≡ told1) → HasRoom told2 fewer
room-more told told1 told2 empties fewer room less first none second none2 = elim (cases_lt 30 fewer) [
  | inl l ↦
      let same = none2 l in
      let same1 = none (omega arith) in
      record {
        few = λ few. elim (cases_lt 31 empties) [ inl m ↦ let one = room.many m in omega arith | inr m ↦ let most = room.few m in omega arith ];
        many = λ many. let one = room.many (omega arith) in omega arith;
      }
  | inr l ↦ record {
    few = λ few. elim (cases_lt 30 empties) [
      | inl m ↦ let same1 = none m in elim (cases_lt 31 empties) [ inl k ↦ let one = room.many k in omega arith | inr k ↦ let most = room.few k in omega arith ]
      | inr m ↦ let most = room.few (omega arith) in omega arith
    ];
    many = λ many. absurd (omega arith);
  }
]

-- ---- the front of a line

pub front-begins : (front line : List ℕ) → front ≡ take front_len line → begins_board front ≡ begins_board line
unfolding begins_board
front-begins front [] is = ap (λ (xs : List ℕ). is_cell (slice_index_or xs 0 0)) (is ∙ take-nil front_len)
front-begins front (b ∷ line) is = ap (λ (xs : List ℕ). is_cell (slice_index_or xs 0 0)) is

pub begins-by : (front : List ℕ) → is_cell (slice_index_or front 0 0) ≡ begins_board front
unfolding begins_board
begins-by front = refl

pub begins-not : (front : List ℕ) → length front ≡ 0 → false ≡ begins_board front
unfolding begins_board
begins-not [] none = refl
begins-not (b ∷ front) none = absurd (omega arith)

-- ---- what a turn is worth

pub turn_score-range : (g : Scoring) (t : Turn) → IsScore (score_of_turn g t)
unfolding score_of_turn
turn_score-range g t =
    let v = IsScore-value g t.after in
    let low = v.low in
    let high = v.high in
    record { low = omega (arith, ints); high = omega (arith, ints) }

pub kept-score : (g : Scoring) (t : Turn) (s : ℤ) → s ≡ score_of_turn g t → to_z w8 (of_z w8 s) ≡ score_of_turn g t
kept-score g t s is = kept s (subst IsScore (sym is) (turn_score-range g t)) ∙ is

abs-most : (z : ℤ) → negsuc 127 ≤ℤ z → z ≤ℤ pos 128 → unsigned_abs z ≤ 128
abs-most (pos n) low high = omega (arith, ints)
abs-most (negsuc n) low high = omega (arith, ints)

-- a difference of two scores, as it is computed
pub difference : (a s x y z : ℤ) → IsScore a → IsScore s → x ≡ to_z w8 (of_z w8 a) → y ≡ to_z w8 (of_z w8 s) → z ≡ to_z w16 (of_z w16 (to_z w16 (of_z w16 x) -ℤ to_z w16 (of_z w16 y))) → z ≡ a -ℤ s
difference a s x y z is_a is_s from_a from_s is =
    let first : x ≡ a = from_a ∙ kept a is_a in
    let second : y ≡ s = from_s ∙ kept s is_s in
    let la = is_a.low in
    let ha = is_a.high in
    let ls = is_s.low in
    let hs = is_s.high in
    let number : to_z w16 (of_z w16 (to_z w16 (of_z w16 a) -ℤ to_z w16 (of_z w16 s))) ≡ a -ℤ s = omega (arith, ints) in
    is ∙ ap₂ (λ p q. to_z w16 (of_z w16 (to_z w16 (of_z w16 p) -ℤ to_z w16 (of_z w16 q)))) first second ∙ number

pub loss-most : (a s : ℤ) → IsScore a → IsScore s → unsigned_abs (a -ℤ s) ≤ 128
loss-most a s is_a is_s =
    let la = is_a.low in
    let ha = is_a.high in
    let ls = is_s.low in
    let hs = is_s.high in
    abs-most (a -ℤ s) (omega (arith, ints)) (omega (arith, ints))

pub loss-is : (g : Scoring) (t : Turn) (b : Discs) (a s : ℤ) (n : ℕ) → b ≡ t.before.board → a ≡ value (score_of g) b → s ≡ score_of_turn g t → n ≡ unsigned_abs (a -ℤ s) → n ≡ loss g t
unfolding loss
loss-is g t b a s n same is_a is_s is = is ∙ ap₂ (λ p q. unsigned_abs (p -ℤ q)) (is_a ∙ ap (value (score_of g)) same) is_s

-- ---- the line of a turn

pub behind : (l m x y : List ℕ) → l ≡ m ++ x → l ++ y ≡ m ++ (x ++ y)
behind l m x y is = ap (λ t. t ++ y) is ∙ append_assoc m x y

-- columns one after the other
pub joined : (n d p s r l1 l2 l3 l4 l5 l6 l7 l8 l9 l10 : List ℕ) (side : ℕ) → l1 ≡ n → l2 ≡ l1 ++ 32 ∷ [] → l3 ≡ l2 ++ d → l4 ≡ l3 ++ 32 ∷ [] → l5 ≡ l4 ++ side ∷ []
    → l6 ≡ l5 ++ 32 ∷ p → l7 ≡ l6 ++ 32 ∷ [] → l8 ≡ l7 ++ s → l9 ≡ l8 ++ 32 ∷ [] → l10 ≡ l9 ++ r
    → l10 ≡ n ++ 32 ∷ d ++ 32 ∷ side ∷ 32 ∷ p ++ 32 ∷ s ++ 32 ∷ r
joined n d p s r l1 l2 l3 l4 l5 l6 l7 l8 l9 l10 side e1 e2 e3 e4 e5 e6 e7 e8 e9 e10 =
    let disc : l3 ≡ n ++ 32 ∷ d = e3 ∙ behind l2 l1 (32 ∷ []) d e2 ∙ ap (λ t. t ++ 32 ∷ d) e1 in
    let move : l6 ≡ l3 ++ 32 ∷ side ∷ 32 ∷ p = e6 ∙ behind l5 l4 (side ∷ []) (32 ∷ p) e5 ∙ behind l4 l3 (32 ∷ []) (side ∷ 32 ∷ p) e4 in
    let score : l8 ≡ l6 ++ 32 ∷ s = e8 ∙ behind l7 l6 (32 ∷ []) s e7 in
    let best : l10 ≡ l8 ++ 32 ∷ r = e10 ∙ behind l9 l8 (32 ∷ []) r e9 in
    best ∙ ap (λ t. t ++ 32 ∷ r) (score ∙ ap (λ t. t ++ 32 ∷ s) (move ∙ ap (λ t. t ++ 32 ∷ side ∷ 32 ∷ p) disc))

-- the sums of both sides behind their names
pub sums-joined : (n x b o w l1 l2 l3 l4 l5 : List ℕ) → l1 ≡ n → l2 ≡ l1 ++ x → l3 ≡ l2 ++ b → l4 ≡ l3 ++ o → l5 ≡ l4 ++ w → l5 ≡ n ++ x ++ b ++ o ++ w
sums-joined n x b o w l1 l2 l3 l4 l5 e1 e2 e3 e4 e5 = rw (e5, e4, e3, e2, e1) refl

-- ---- a line by its front

front-moves : (front line : List ℕ) → front ≡ take front_len line → has_moves front ≡ has_moves line
unfolding has_moves
front-moves front line is = ap (λ b. b == 32) (ap (λ (xs : List ℕ). get_or xs 66 0) is ∙ get_or-take front_len line 66 0 (omega arith))

front-reading : (front line : List ℕ) → front ≡ take front_len line → reading (board_part front) ≡ reading (board_part line)
front-reading front line is = go (has_moves line) refl
  where
    go : (b : Bool) → has_moves line ≡ b → reading (board_part front) ≡ reading (board_part line)
    go true has =
        ap reading (board_is front (front-moves front line is ∙ has) ∙ ap (take 66) is ∙ take-take 66 front_len line (omega arith) ∙ sym (board_is line has))
    go false has =
        ap reading (board_alone front (front-moves front line is ∙ has)) ∙ reading-front front_len front line (omega arith) is ∙ sym (ap reading (board_alone line has))

front-turns : (p : Position) (front line : List ℕ) → front ≡ take front_len line → turns p (moves_part front) ≡ turns p (moves_part line)
front-turns p front line is = go (has_moves line) refl
  where
    go : (b : Bool) → has_moves line ≡ b → turns p (moves_part front) ≡ turns p (moves_part line)
    go true has =
        ap (turns p) (moves_are front (front-moves front line is ∙ has) ∙ ap (drop 67) is ∙ drop-take 67 128 line)
        ∙ turns-take 128 p (drop 67 line) (let most = no_more_empties p.board in omega arith) ∙ sym (ap (turns p) (moves_are line has))
    go false has = ap (turns p) (moves_none front (front-moves front line is ∙ has) ∙ sym (moves_none line has))

told-line : (last : ℕ) (line : List ℕ) (ts : List Turn) → ts ≡ turns_of line → filter (is_told last) ts ≡ told_turns last line
unfolding told_turns
told-line last line ts is = ap (filter (is_told last)) is

of-board : (line : List ℕ) (r : Result Position LineFault) → begins_board line ≡ true → reading (board_part line) ≡ r → turns_from r (moves_part line) ≡ turns_of line
unfolding turns_of
of-board line r begins is = rw (begins, is) refl

of-transcript : (line : List ℕ) → begins_board line ≡ false → turns_from (Ok start) line ≡ turns_of line
unfolding turns_of
of-transcript line begins = rw begins refl

pub told-transcript : (last : ℕ) (front line : List ℕ) (p : Position) (told : List Turn) → front ≡ take front_len line → begins_board line ≡ false → p ≡ start
    → told ≡ filter (is_told last) (turns_from (Ok p) front) → told ≡ told_turns last line
told-transcript last front line p told is begins first are =
    let whole : turns_from (Ok p) front ≡ turns_of line =
    ap (λ q. turns_from (Ok q) front) first ∙ ap (λ xs. turns_from (Ok start) xs) is
    ∙ ap (λ ts. pass_turns start ++ ts) (turns-take front_len (with_forced_pass start) line (let most = no_more_empties (with_forced_pass start).board in omega arith))
    ∙ of-transcript line begins in
    are ∙ told-line last line (turns_from (Ok p) front) whole

pub told-board : (last : ℕ) (front line board moves : List ℕ) (p : Position) → front ≡ take front_len line → begins_board line ≡ true → board ≡ board_part front → moves ≡ moves_part front
    → reading board ≡ Ok p → filter (is_told last) (turns_from (Ok p) moves) ≡ told_turns last line
told-board last front line board moves p is begins first second reads =
    let whole : turns_from (Ok p) moves ≡ turns_of line =
    ap (λ xs. turns_from (Ok p) xs) second ∙ ap (λ ts. pass_turns p ++ ts) (front-turns (with_forced_pass p) front line is)
    ∙ of-board line (Ok p) begins (sym (front-reading front line is) ∙ ap reading (sym first) ∙ reads) in
    told-line last line (turns_from (Ok p) moves) whole

pub told-faulty : (last : ℕ) (front line board : List ℕ) (f : LineFault) → front ≡ take front_len line → begins_board line ≡ true → board ≡ board_part front → reading board ≡ Err f
    → [] ≡ told_turns last line
told-faulty last front line board f is begins first reads =
    told-line last line [] (of-board line (Err f) begins (sym (front-reading front line is) ∙ ap reading (sym first) ∙ reads))

-- ---- its fault

pub fault-board : (line : List ℕ) (r : Result Position GameFault) → begins_board line ≡ true → game_reading line ≡ r → fault_of line ≡ game_fault_of r
unfolding fault_of
fault-board line r begins is = rw (begins, is) refl

pub fault-transcript : (line : List ℕ) (r : Result Position TranscriptFault) → begins_board line ≡ false → transcript_reading line ≡ r → fault_of line ≡ transcript_fault_of r
unfolding fault_of
fault-transcript line r begins is = rw (begins, is) refl
