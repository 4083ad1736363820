-- Board lines: what they show, and that each text has one reading.
use Rattle.std.proofs.Common.{◌≡◌, ◌+◌, ◌<◌, ◌≤◌, ◌==◌, ◌&&◌, ℕ, List, [], ◌∷◌, ◌++◌, map, Bool, true, false, cond, Result, Ok, Err}
use Rattle.std.proofs.Common.{IfOk, IfErr, length, slice_index, refl, sym, ap, ◌∙◌, arith, subst, nat_lt, inl, inr}
use Rattle.std.specs.Prelude.{◌↔◌, bit_and}
use Rattle.std.specs.Int.{bit_at}
use Rattle.std.proofs.lemmas.List.{ext_get_or, length-append, get_or_append_left, get_or-append_right, get_or_at}
use Rattle.std.proofs.lemmas.List.FromFn.{get_or-map-range_with_len, length-map-range_with_len}
use Rattle.std.proofs.lemmas.Bool.{cases_lt, cases_eq}
use Rattle.std.proofs.lemmas.Bool.Decides.{nat_tests}
use Rattle.std.proofs.lemmas.Nat.{and_comm}
use Rattle.oth_rules.specs.Square.{has, squares, word_of, word_below}
use Rattle.oth_rules.specs.Position.{Position as Discs, Cell, Mine, Theirs, Empty, IsBoard, cell, position_of, empty_count, is_mine_cell, is_theirs_cell}
use Rattle.oth_rules.proofs.Bits.{has-and, has-zero}
use Rattle.oth_rules.proofs.Positions.{position_of-same, position_of-cell}
use Rattle.oth_text.specs.declared.position.Side.{Side}
use Rattle.oth_text.specs.declared.position.Side.TheVariants.{Black, White}
use Rattle.oth_text.specs.declared.position.Position.{Position}
use Rattle.oth_text.specs.declared.fault.LineFault.{LineFault}
use Rattle.oth_text.specs.declared.fault.LineFault.TheVariants.{Length, BadCell, Space, Mover, Empties}
use Rattle.oth_text.specs.Sides.{by_mover, start}
use Rattle.oth_text.specs.BoardLine.{IsBoardLine, IsFirstFault, IsSolvableFault, IsSolvableLine, board_line, cell_byte, cell_of}
use Rattle.oth_text.specs.BoardLine.{if_solvable, most_empties, reading, shown, side_byte, side_of, solvable_reading}
use Rattle.oth_text.specs.Discs.{ShowsDiscs, disc_byte}
use Rattle.oth_text.proofs.FaultLemmas.{first_fault_is, first_fault_none}

cell_back : (m : Side) (c : Cell) → cell_of m (cell_byte m c) ≡ c
cell_back Black Mine = refl
cell_back Black Theirs = refl
cell_back Black Empty = refl
cell_back White Mine = refl
cell_back White Theirs = refl
cell_back White Empty = refl

side_back : (m : Side) → side_of (side_byte m) ≡ m
side_back Black = refl
side_back White = refl

at_mover : (text : List ℕ) (m n : Side) (b : Discs) → m ≡ n → position_of (λ s. cell_of n (slice_index text s)) ≡ b
    → ◌≡◌ {A = Position} (record { board = position_of (λ s. cell_of m (slice_index text s)); mover = m }) (record { board = b; mover = n })
at_mover text m n b e h = rw (e, h) refl

-- a board line shows its position
pub shown_is : (text : List ℕ) (p : Position) → IsBoardLine text p → shown text ≡ p
unfolding shown
shown_is text p h =
    at_mover text (side_of (slice_index text 65)) p.mover p.board (ap side_of h.mover ∙ side_back p.mover)
    (position_of-same (λ s. cell_of p.mover (slice_index text s)) (cell p.board) (λ s l. ap (cell_of p.mover) (h.cells s l) ∙ cell_back p.mover (cell p.board s))
    ∙ sym (position_of-cell p.board h.board))

pub reading_line : (text : List ℕ) (p : Position) → IsBoardLine text p → reading text ≡ Ok p
unfolding reading
reading_line text p h = rw (first_fault_none text p h) (ap (λ q. Ok q) (shown_is text p h))

pub reading_fault : (text : List ℕ) (f : LineFault) → IsFirstFault text f → reading text ≡ Err f
unfolding reading
reading_fault text f h = rw (first_fault_is text f h) refl

-- what a reader answers, where it is right by place
pub reading_is : (r : Result Position LineFault) (text : List ℕ) → IfOk r (λ p. IsBoardLine text p) → IfErr r (λ f. IsFirstFault text f) → r ≡ reading text
reading_is (Ok p) text line fault = sym (reading_line text p line)
reading_is (Err f) text line fault = sym (reading_fault text f fault)

pub line_iff : (r : Result Position LineFault) (text : List ℕ) → IfOk r (λ p. IsBoardLine text p) → IfErr r (λ f. IsFirstFault text f) → (p : Position) → (r ≡ Ok p) ↔ IsBoardLine text p
line_iff (Ok q) text line fault p = ((λ e. let same : q ≡ p = cc in subst (IsBoardLine text) same line), (λ h. sym (reading_line text q line) ∙ reading_line text p h))
line_iff (Err f) text line fault p = ((λ e. absurd (cc)), (λ h. sym (reading_fault text f fault) ∙ reading_line text p h))

pub fault_iff : (r : Result Position LineFault) (text : List ℕ) → IfOk r (λ p. IsBoardLine text p) → IfErr r (λ f. IsFirstFault text f) → (f : LineFault) → (r ≡ Err f) ↔ IsFirstFault text f
fault_iff (Ok q) text line fault f = ((λ e. absurd (cc)), (λ h. sym (reading_line text q line) ∙ reading_fault text f h))
fault_iff (Err g) text line fault f = ((λ e. let same : g ≡ f = cc in subst (IsFirstFault text) same fault), (λ h. sym (reading_fault text g fault) ∙ reading_fault text f h))

-- ---- from the words of the sides

colour : (x y : Bool) → cond x 88 (cond y 79 45) ≡ cell_byte Black (cond x Mine (cond y Theirs Empty))
colour true y = refl
colour false true = refl
colour false false = refl

colour_turned : (x y : Bool) → (x && y) ≡ false → cond x 88 (cond y 79 45) ≡ cell_byte White (cond y Mine (cond x Theirs Empty))
colour_turned true true e = absurd (cc)
colour_turned true false e = refl
colour_turned false true e = refl
colour_turned false false e = refl

disc_is : (m : Side) (b : Discs) (black white s : ℕ) → b.own ≡ by_mover m black white → b.opp ≡ by_mover m white black → bit_and black white ≡ 0
    → disc_byte black white s ≡ cell_byte m (cell b s)
unfolding cell has
disc_is Black b black white s own opp apart = rw (own, opp) (colour (bit_at black s == 1) (bit_at white s == 1))
disc_is White b black white s own opp apart = rw (own, opp) (colour_turned (bit_at black s == 1) (bit_at white s == 1)
    (sym (has-and black white s) ∙ ap (λ w. has w s) apart ∙ has-zero s))

pub line_of : (text : List ℕ) (black white : ℕ) (p : Position) → IsBoard p.board → bit_and black white ≡ 0 → p.board.own ≡ by_mover p.mover black white → p.board.opp ≡ by_mover p.mover white black
    → length text ≡ 66 → ShowsDiscs text black white → slice_index text 64 ≡ 32 → slice_index text 65 ≡ side_byte p.mover → IsBoardLine text p
line_of text black white p board apart own opp len cells space mover = record {
  board = board;
  len = len;
  cells = λ s l. cells s l ∙ disc_is p.mover p.board black white s own opp apart;
  space = space;
  mover = mover;
}

-- ---- the text of a position

cells_of : Position → List ℕ
cells_of p = map (λ s. cell_byte p.mover (cell p.board s)) squares

length-cells : (p : Position) → length (cells_of p) ≡ 64
unfolding cells_of squares
length-cells p = length-map-range_with_len (λ s. cell_byte p.mover (cell p.board s)) 0 64

cells_at : (p : Position) (s : ℕ) → s < 64 → slice_index (cells_of p) s ≡ cell_byte p.mover (cell p.board s)
unfolding cells_of squares
cells_at p s l = get_or-map-range_with_len (λ s. cell_byte p.mover (cell p.board s)) 0 64 s s 0 l (omega arith)

-- a line by place is the line as a text
pub is_board_line : (text : List ℕ) (p : Position) → IsBoardLine text p → text ≡ board_line p
unfolding board_line cells_of
is_board_line text p h =
    let len = h.len in
    let short = length-cells p in
    ext_get_or 0 text (cells_of p ++ 32 ∷ side_byte p.mover ∷ []) (len ∙ sym (length-append (cells_of p) (32 ∷ side_byte p.mover ∷ []) ∙ rw short refl)) (λ i l.
    elim (cases_lt i 64) [
      | inl l ↦ h.cells i l ∙ sym (get_or_append_left (cells_of p) (32 ∷ side_byte p.mover ∷ []) 0 i (omega arith) ∙ cells_at p i l)
      | inr l' ↦ elim (cases_eq i 64) [
        | inl e ↦ rw e (h.space ∙ sym (get_or-append_right (cells_of p) (32 ∷ side_byte p.mover ∷ []) 64 64 0 short (omega arith)))
        | inr ne ↦ let e : i ≡ 65 = omega arith in rw e (h.mover ∙ sym (get_or-append_right (cells_of p) (32 ∷ side_byte p.mover ∷ []) 64 65 0 short (omega arith)))
      ]
    ])

-- a line that was written cell by cell
pub written : (line : List ℕ) (black white space : ℕ) (p : Position) → IsBoard p.board → black ≡ by_mover p.mover p.board.own p.board.opp → white ≡ by_mover p.mover p.board.opp p.board.own
    → length line ≡ 64 → ShowsDiscs line black white → space ≡ 32 → IsBoardLine ((line ++ space ∷ []) ++ side_byte p.mover ∷ []) p
written line black white space p board is_black is_white len shows is_space =
    line_of ((line ++ space ∷ []) ++ side_byte p.mover ∷ []) black white p board (apart_of p.mover p.board.own p.board.opp black white board.apart is_black is_white)
    (own_of p.mover p.board.own p.board.opp black white is_black is_white) (own_of p.mover p.board.opp p.board.own white black is_white is_black)
    (length-append (line ++ space ∷ []) (side_byte p.mover ∷ []) ∙ ap (λ n. n + 1) (length-append line (space ∷ [])) ∙ rw len refl)
    (λ s l.
    get_or_append_left (line ++ space ∷ []) (side_byte p.mover ∷ []) 0 s (rw (length-append line (space ∷ [])) (omega arith))
    ∙ get_or_append_left line (space ∷ []) 0 s (omega arith)
    ∙ shows s l)
    (get_or_append_left (line ++ space ∷ []) (side_byte p.mover ∷ []) 0 64 (rw (length-append line (space ∷ [])) (omega arith)) ∙ get_or_at line space [] 0 64 len ∙ is_space)
    (get_or_at (line ++ space ∷ []) (side_byte p.mover) [] 0 65 (length-append line (space ∷ []) ∙ rw len refl))
  where
    own_of : (m : Side) (own opp black white : ℕ) → black ≡ by_mover m own opp → white ≡ by_mover m opp own → own ≡ by_mover m black white
    own_of Black own opp black white b w = sym b
    own_of White own opp black white b w = sym w

    apart_of : (m : Side) (own opp black white : ℕ) → bit_and own opp ≡ 0 → black ≡ by_mover m own opp → white ≡ by_mover m opp own → bit_and black white ≡ 0
    apart_of Black own opp black white apart b w = rw (b, w) apart
    apart_of White own opp black white apart b w = rw (b, w) (and_comm opp own ∙ apart)

-- ---- boards that are solved

few : (n : ℕ) → n ≤ most_empties → nat_lt most_empties n ≡ false
few n h = grind (arith, nat_tests)

many : (n : ℕ) → most_empties < n → nat_lt most_empties n ≡ true
many n h = grind (arith, nat_tests)

module _ (text : List ℕ) where
  solvable_forward : (q p : Position) → ((p : Position) → (◌≡◌ {A = Result Position LineFault} (Ok q) (Ok p)) ↔ IsBoardLine text p)
      → if_solvable (Ok q) ≡ Ok p → IsSolvableLine text p
  solvable_forward q p lines e = elim (cases_lt most_empties (empty_count q.board)) [
    | inl l ↦ let test = many (empty_count q.board) l in absurd (let bad : Err (Empties (empty_count q.board)) ≡ Ok p = rw test at e in cc)
    | inr l ↦ let test = few (empty_count q.board) l in
        let good : ◌≡◌ {A = Result Position LineFault} (Ok q) (Ok p) = rw test at e in
        let same : q ≡ p = cc in
        record { line = (lines p).0 good; few = subst (λ x. empty_count x.board ≤ most_empties) same l }
  ]

  pub solvable_line_iff : (r : Result Position LineFault) → ((p : Position) → (r ≡ Ok p) ↔ IsBoardLine text p) → (p : Position) → (if_solvable r ≡ Ok p) ↔ IsSolvableLine text p
  solvable_line_iff (Ok q) lines p = (
    solvable_forward q p lines,
    (λ h.
        let e = (lines p).1 h.line in
        let same : q ≡ p = cc in
        rw (same, few (empty_count p.board) h.few) refl),
  )
  solvable_line_iff (Err f) lines p = ((λ e. absurd (cc)), (λ h. (lines p).1 h.line))

  faulty_forward : (q : Position) (f : LineFault) → ((p : Position) → (◌≡◌ {A = Result Position LineFault} (Ok q) (Ok p)) ↔ IsBoardLine text p)
      → if_solvable (Ok q) ≡ Err f → IsSolvableFault text f
  faulty_forward q f lines e = elim (cases_lt most_empties (empty_count q.board)) [
    | inl l ↦ let test = many (empty_count q.board) l in
        let bad : ◌≡◌ {A = Result Position LineFault} (Err (Empties (empty_count q.board))) (Err f) = rw test at e in
        let same : Empties (empty_count q.board) ≡ f = cc in
        subst (IsSolvableFault text) same (record { position = q; line = (lines q).0 refl; counted = refl; many = l })
    | inr l ↦ let test = few (empty_count q.board) l in absurd (let bad : ◌≡◌ {A = Result Position LineFault} (Ok q) (Err f) = rw test at e in cc)
  ]

  -- a fault of a line is one of the line as a solvable one
  same_fault : (f : LineFault) → IsFirstFault text f → IsSolvableFault text f
  same_fault Length h = h
  same_fault (BadCell p) h = h
  same_fault Space h = h
  same_fault Mover h = h
  same_fault (Empties n) h = absurd h

  pub solvable_fault_iff : (r : Result Position LineFault) → ((p : Position) → (r ≡ Ok p) ↔ IsBoardLine text p) → ((f : LineFault) → (r ≡ Err f) ↔ IsFirstFault text f)
      → (f : LineFault) → (if_solvable r ≡ Err f) ↔ IsSolvableFault text f
  solvable_fault_iff (Ok q) lines faults f = (faulty_forward q f lines, back f)
    where
      back : (f : LineFault) → IsSolvableFault text f → if_solvable (Ok q) ≡ Err f
      back Length h = absurd (let e = (faults Length).1 h in cc)
      back (BadCell p) h = absurd (let e = (faults (BadCell p)).1 h in cc)
      back Space h = absurd (let e = (faults Space).1 h in cc)
      back Mover h = absurd (let e = (faults Mover).1 h in cc)
      back (Empties n) h =
          let e = (lines h.position).1 h.line in
          let same : q ≡ h.position = cc in
          let count : empty_count q.board ≡ n = ap (λ x. empty_count x.board) same ∙ sym h.counted in
          let most = h.many in
          rw (count, many n most) refl
  solvable_fault_iff (Err g) lines faults f = ((λ e. same_fault f ((faults f).0 e)), back f)
    where
      back : (f : LineFault) → IsSolvableFault text f → ◌≡◌ {A = Result Position LineFault} (Err g) (Err f)
      back Length h = (faults Length).1 h
      back (BadCell p) h = (faults (BadCell p)).1 h
      back Space h = (faults Space).1 h
      back Mover h = (faults Mover).1 h
      back (Empties n) h = absurd (let e = (lines h.position).1 h.line in cc)

-- ---- the start

abbrev built : ℕ → ℕ → Side → Position
built own opp mover = record { board = record { own = own; opp = opp }; mover = mover }

same_position : (p q : Position) → p.board.own ≡ q.board.own → p.board.opp ≡ q.board.opp → p.mover ≡ q.mover → p ≡ q
same_position p q e f g =
    ap (λ a. built a p.board.opp p.mover) e ∙ ap (λ b. built q.board.own b p.mover) f ∙ ap (λ m. built q.board.own q.board.opp m) g

pub start-own : start.board.own ≡ 0x0000_0008_1000_0000
unfolding start position_of is_mine_cell is_theirs_cell word_of word_below
start-own = refl

pub start-opp : start.board.opp ≡ 0x0000_0010_0800_0000
unfolding start position_of is_mine_cell is_theirs_cell word_of word_below
start-opp = refl

start-mover : start.mover ≡ Black
unfolding start
start-mover = refl

pub start_is : (p : Position) → p.board.own ≡ 0x0000_0008_1000_0000 → p.board.opp ≡ 0x0000_0010_0800_0000 → p.mover ≡ Black → p ≡ start
start_is p own opp mover = same_position p start (own ∙ sym start-own) (opp ∙ sym start-opp) (mover ∙ sym start-mover)

pub solvable_is : (read r : Result Position LineFault) (text : List ℕ) → read ≡ reading text → r ≡ if_solvable read → r ≡ solvable_reading text
unfolding solvable_reading
solvable_is read r text is_read is = is ∙ ap if_solvable is_read
