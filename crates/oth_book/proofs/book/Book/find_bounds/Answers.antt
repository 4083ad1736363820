use Rattle.std.proofs.Common.{◌≡◌, true, false}
use Rattle.oth_book.proofs.BookLemmas.{gap_absent}
use Rattle.oth_book.proofs.book.Book.find_bounds.Goals as goal

pub returns-in-Err-clause-found : goal.returns-in-Err-clause-found
returns-in-Err-clause-found c =
    let gap = rw (c.as_slice.ensures.value, c.canonical-image.ensures.board) at c.in-Err.ensures.absent in
    rw (← c.self.view_is) (λ no. absurd (let clash : false ≡ true = no in cc), λ has. absurd (gap_absent c.self.inside.entries.items _ _ gap has))
