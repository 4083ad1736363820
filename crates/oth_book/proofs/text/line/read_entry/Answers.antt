use Rattle.std.proofs.Common.{◌≡◌, sym, ◌∙◌, refl, true, false, arith, w8, lit≤}
use Rattle.std.proofs.lemmas.Int.{to_z-of_z}
use Rattle.oth_book.specs.Shape.{bounds_len}
use Rattle.oth_book.proofs.LineLemmas.{length-part, entry_bytes, entry_cells, entry_bounds, entry_best}
use Rattle.oth_book.proofs.EntryLemmas.{is_entry_at, no_entry_at, no_bounds_at, bounds_small, length-best}
use Rattle.oth_book.proofs.text.line.read_entry.Goals as goal

pub read_cells-board-requires-clause-len : goal.read_cells-board-requires-clause-len
read_cells-board-requires-clause-len c = let len = c.requires.len in rw c.part.ensures (length-part 0 64 c.args.line.now (omega arith))

pub read_cells-board-requires-clause-cells : goal.read_cells-board-requires-clause-cells
read_cells-board-requires-clause-cells c = rw c.part.ensures (entry_cells (bounds_len c.args.version) c.args.line.now (entry_bytes c.args.version c.args.line.now c.requires))

pub read_bounds-requires : goal.read_bounds-requires
read_bounds-requires c = rw (c.part-2.ensures, c.bounds_len-len.ensures.value) (entry_bounds c.args.version c.args.line.now (entry_bytes c.args.version c.args.line.now c.requires))

pub returns-in_default-clause-none : goal.returns-in_default-clause-none
returns-in_default-clause-none c =
    let is = rw c.bounds_len-len.ensures.value at c.part-2.ensures in
    no_bounds_at c.args.version c.args.line.now _ c.requires is c.in_default.ensures.none

pub read_numeral-best-requires-clause-digits : goal.read_numeral-best-requires-clause-digits
read_numeral-best-requires-clause-digits c =
    rw (c.part-3.ensures, c.bounds_len-len.ensures.value) (entry_best (bounds_len c.args.version) c.args.line.now (entry_bytes c.args.version c.args.line.now c.requires))

pub read_numeral-best-requires-clause-room : goal.read_numeral-best-requires-clause-room
read_numeral-best-requires-clause-room c =
    rw (c.part-3.ensures, c.bounds_len-len.ensures.value, length-best c.args.version c.args.line.now c.requires) (lit≤ tt)

pub returns-then-not-is_entry-clause-none : goal.returns-then-not-is_entry-clause-none
returns-then-not-is_entry-clause-none c =
    let line = c.args.line.now in
    let cells = c.read_cells-board.ensures.cells ∙ c.part.ensures in
    let bounds = sym (rw c.bounds_len-len.ensures.value at c.part-2.ensures) ∙ c.in-Some.ensures.text in
    let digits = rw (c.part-3.ensures, c.bounds_len-len.ensures.value, length-best c.args.version line c.requires) at c.read_numeral-best.ensures.text in
    let fits = rw (c.part-3.ensures, c.bounds_len-len.ensures.value, length-best c.args.version line c.requires) at c.read_numeral-best.ensures.bound in
    no_entry_at c.args.version line c.read_cells-board.result _ _ c.read_numeral-best.result c.requires cells c.read_cells-board.ensures.board c.in-Some.ensures.said bounds digits fits
    (λ h. let no : false ≡ true = c.if-not-is_entry.ensures.1 h in cc)

pub returns-clause-some : goal.returns-clause-some
returns-clause-some c =
    let line = c.args.line.now in
    let cells = c.read_cells-board.ensures.cells ∙ c.part.ensures in
    let bounds = sym (rw c.bounds_len-len.ensures.value at c.part-2.ensures) ∙ c.in-Some.ensures.text in
    let digits = rw (c.part-3.ensures, c.bounds_len-len.ensures.value, length-best c.args.version line c.requires) at c.read_numeral-best.ensures.text in
    let fits = rw (c.part-3.ensures, c.bounds_len-len.ensures.value, length-best c.args.version line c.requires) at c.read_numeral-best.ensures.bound in
    let entry = c.if-not-is_entry.ensures.0 refl in
    let small = bounds_small c.in-Some.bounds.is_interval in
    rw (to_z-of_z w8 c.in-Some.bounds.lower (record { sfits = omega (arith, small.0) }), to_z-of_z w8 c.in-Some.bounds.upper (record { sfits = omega (arith, small.1) }))
    (is_entry_at c.args.version line c.read_cells-board.result _ _ c.read_numeral-best.result c.requires cells c.read_cells-board.ensures.board c.in-Some.ensures.said bounds digits fits
    entry.0 entry.1)
