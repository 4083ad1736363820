use Rattle.std.proofs.Common.{◌≡◌, sym, ◌∙◌, refl, true, false, rules}
use Rattle.oth_rules.specs.Symmetry.{canonical}
use Rattle.oth_book.proofs.BookLemmas.{gap_absent, kept_is, entry_has}
use Rattle.oth_book.proofs.book.Book.find.Goals as goal

pub returns-then-not-is_exact-clause-found : goal.returns-then-not-is_exact-clause-found
returns-then-not-is_exact-clause-found c =
    let at = rw (c.as_slice.ensures.value, c.canonical-image.ensures.board) at c.in-Ok.ensures.found in
    rw (← c.self.view_is) (
      λ no. absurd (let clash : false ≡ true = no in cc),
      λ has. let same = kept_is c.self.inside.scoring c.self.inside.entries.items c.in-Ok.place (canonical c.args.board.now) _ has.0 has.0 c.self.invariant at c.index.ensures has.1 in
          absurd (let clash : false ≡ true = c.if-not-is_exact.ensures.1 (same.0 ∙ sym same.1) in cc),
    )

pub returns-else-not-is_exact-clause-found : goal.returns-else-not-is_exact-clause-found
returns-else-not-is_exact-clause-found c =
    let at = rw (c.as_slice.ensures.value, c.canonical-image.ensures.board) at c.in-Ok.ensures.found in
    let has = entry_has c.self.inside.entries.items c.in-Ok.place (canonical c.args.board.now) _ at c.index.ensures in
    let exact = c.if-not-is_exact.ensures.0 refl in
    rw (← c.self.view_is) (λ yes_so. (_, rw (← exact) at has), λ any. refl)

pub returns-in-Err-clause-found : goal.returns-in-Err-clause-found
returns-in-Err-clause-found c =
    let gap = rw (c.as_slice.ensures.value, c.canonical-image.ensures.board) at c.in-Err.ensures.absent in
    rw (← c.self.view_is) (λ no. absurd (let clash : false ≡ true = no in cc), λ has. absurd (gap_absent c.self.inside.entries.items _ _ gap (has.0, has.0, has.1)))

pub position-requires-clause-board : goal.position-requires-clause-board
position-requires-clause-board c = search rules
