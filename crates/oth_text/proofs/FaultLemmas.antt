-- The first fault of a text, from facts by place.
use Rattle.std.proofs.Common.{◌≡◌, ◌+◌, ◌-◌, ◌<◌, ◌==◌, ℕ, zero, suc, List, [], ◌∷◌, Bool, true, false, None, Some, length, take, slice_index, refl, ap, ◌∙◌, arith}
use Rattle.std.proofs.lemmas.Bool.{eq-eqb, ne_eqb}
use Rattle.std.proofs.lemmas.List.{get_or-take, length-take-le}
use Rattle.oth_rules.specs.Position.{Cell, Mine, Theirs, Empty, cell}
use Rattle.oth_text.specs.BoardLine.{HasCells, IsBoardLine, IsFirstFault, cell_byte, fault_after_cells, first_bad, first_fault, is_cell, side_byte}
use Rattle.oth_text.specs.declared.position.Position.{Position}
use Rattle.oth_text.specs.declared.position.Side.{Side}
use Rattle.oth_text.specs.declared.position.Side.TheVariants.{Black, White}
use Rattle.oth_text.specs.declared.fault.LineFault.{LineFault}
use Rattle.oth_text.specs.declared.fault.LineFault.TheVariants.{Length, BadCell, Space, Mover, Empties}

is_false : (b : Bool) → (b ≡ true → ⊥) → b ≡ false
is_false true h = absurd (h refl)
is_false false h = refl

no_bad : (k : ℕ) (bs : List ℕ) → ((j : ℕ) → j < length bs → is_cell (slice_index bs j) ≡ true) → first_bad k bs ≡ None
no_bad k [] h = refl
no_bad k (b ∷ bs) h = let first : is_cell b ≡ true = h 0 (omega arith) in rw first (no_bad (k + 1) bs (λ j l. h (suc j) (omega arith)))

bad_at : (k : ℕ) (bs : List ℕ) (i : ℕ) → i < length bs → ((j : ℕ) → j < i → is_cell (slice_index bs j) ≡ true) → is_cell (slice_index bs i) ≡ false → first_bad k bs ≡ Some (k + i)
bad_at k [] i within before bad = absurd (omega arith)
bad_at k (b ∷ bs) zero within before bad = let first : is_cell b ≡ false = bad in rw first (ap (λ n. Some n) (let e : k ≡ k + 0 = omega arith in e))
bad_at k (b ∷ bs) (suc i) within before bad =
    let first : is_cell b ≡ true = before 0 (omega arith) in
    rw first (bad_at (k + 1) bs i (omega arith) (λ j l. before (suc j) (omega arith)) bad ∙ ap (λ n. Some n) (let e : k + 1 + i ≡ k + suc i = omega arith in e))

no_bad_cell : (text : List ℕ) → HasCells text 64 → first_bad 1 (take 64 text) ≡ None
no_bad_cell text h = let len = h.len in no_bad 1 (take 64 text) (λ j l.
    let within : j < 64 = let short = length-take-le 64 text (omega arith) in omega arith in
    ap is_cell (get_or-take 64 text j 0 within) ∙ h.cells j within)

-- the fault by place is the first one
pub first_fault_is : (text : List ℕ) (f : LineFault) → IsFirstFault text f → first_fault text ≡ Some f
unfolding first_fault
first_fault_is text Length h = let no : (length text == 66) ≡ false = ne_eqb _ _ h in rw no refl
first_fault_is text (BadCell p) h =
    let len : (length text == 66) ≡ true = eq-eqb _ _ h.before.len in
    let e = h.before.len in
    let place = h.place in
    let front : (j : ℕ) → j < 64 → slice_index (take 64 text) j ≡ slice_index text j = λ j l. get_or-take 64 text j 0 l in
    let bad : is_cell (slice_index (take 64 text) (p - 1)) ≡ false = ap is_cell (front (p - 1) (omega arith)) ∙ is_false _ h.bad in
    let at : first_bad 1 (take 64 text) ≡ Some (1 + (p - 1)) = bad_at 1 (take 64 text) (p - 1) (rw (length-take-le 64 text (omega arith)) (omega arith))
    (λ j l. ap is_cell (front j (omega arith)) ∙ h.before.cells j l) bad in
    let same : 1 + (p - 1) ≡ p = omega arith in
    rw (len, at, same) refl
first_fault_is text Space h = rw (eq-eqb _ _ h.0.len, no_bad_cell text h.0, ne_eqb _ _ h.1) refl
first_fault_is text Mover h = rw (eq-eqb _ _ h.0.len, no_bad_cell text h.0, eq-eqb _ _ h.1, ne_eqb _ _ h.2, ne_eqb _ _ h.3) refl
first_fault_is text (Empties n) h = absurd h

cell_byte_is_cell : (mover : Side) (c : Cell) → is_cell (cell_byte mover c) ≡ true
cell_byte_is_cell Black Mine = refl
cell_byte_is_cell Black Theirs = refl
cell_byte_is_cell Black Empty = refl
cell_byte_is_cell White Mine = refl
cell_byte_is_cell White Theirs = refl
cell_byte_is_cell White Empty = refl

side_byte_is : (mover : Side) → fault_after_cells 32 (side_byte mover) ≡ None
side_byte_is Black = refl
side_byte_is White = refl

-- a board line has no fault
pub first_fault_none : (text : List ℕ) (p : Position) → IsBoardLine text p → first_fault text ≡ None
unfolding first_fault
first_fault_none text p h =
    let cells : HasCells text 64 = record { len = h.len; cells = λ k l. ap is_cell (h.cells k l) ∙ cell_byte_is_cell p.mover (cell p.board k) } in
    rw (eq-eqb _ _ h.len, no_bad_cell text cells, h.space, h.mover) (side_byte_is p.mover)
