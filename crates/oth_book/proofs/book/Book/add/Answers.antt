use Rattle.std.proofs.Common.{◌≡◌, refl, true, false, sym, ap, ◌∙◌}
use Rattle.oth_book.proofs.AddLemmas.{book_set, put_true, is_put, answer_present, answer_sharper, answer_new, answer_refused}
use Rattle.oth_book.proofs.KeepLemmas.{exact_keeps, put_keeps}
use Rattle.oth_book.proofs.book.Book.add.Goals as goal

pub invariant_of-self : goal.invariant_of-self
invariant_of-self c =
    let by = c.if-not-agree.ensures.0 refl in
    let at = rw c.as_slice.ensures.value at c.in-Ok.ensures.found in
    book_set c.self.inside.scoring c.self.inside.entries.items c.in-Ok.place c.entry_of-entry.result c.self.invariant (rw (← by) c.entry_of-entry.ensures.holds) at

pub invariant_of-self-in-Err : goal.invariant_of-self-in-Err
invariant_of-self-in-Err c =
    let by = c.if-not-agree.ensures.0 refl in
    let gap = rw c.as_slice.ensures.value at c.in-Err.ensures.absent in
    put_true c.self.inside.scoring c.self.inside.entries.items _ c.in-Err.place c.entry_of-entry.result c.put_in.result c.self.invariant (rw (← by) c.entry_of-entry.ensures.holds) gap
    (is_put _ _ _ _ _ c.put_in.ensures.new c.put_in.ensures.full c.put_in.ensures.room c.put_in.ensures.unchanged)

pub returns-then-is_exact-clause-added : goal.returns-then-is_exact-clause-added
returns-then-is_exact-clause-added c =
    let at = rw c.as_slice.ensures.value at c.in-Ok.ensures.found in
    rw (← c.self.view_is)
    (answer_present c.self.inside.scoring c.self.inside.entries.items c.in-Ok.place _ c.entry_of-entry.result c.args.answer.now c.entry_of-entry.ensures.entry at c.index.ensures
    (c.if-is_exact.ensures.0 refl))

pub returns-else-is_exact-clause-added : goal.returns-else-is_exact-clause-added
returns-else-is_exact-clause-added c =
    let at = rw c.as_slice.ensures.value at c.in-Ok.ensures.found in
    rw (← c.self.view_is) (answer_sharper c.self.inside.scoring c.self.inside.entries.items c.in-Ok.place _ c.entry_of-entry.result c.args.answer.now c.entry_of-entry.ensures.entry at c.index.ensures
    (λ h. let no : false ≡ true = c.if-is_exact.ensures.1 h in cc))

pub returns-in-Err-clause-added : goal.returns-in-Err-clause-added
returns-in-Err-clause-added c =
    let gap = rw c.as_slice.ensures.value at c.in-Err.ensures.absent in
    rw (← c.self.view_is) (answer_new c.self.inside.scoring c.self.inside.entries.items _ c.in-Err.place c.entry_of-entry.result c.args.answer.now c.put_in.result c.entry_of-entry.ensures.entry gap
    (is_put _ _ _ _ _ c.put_in.ensures.new c.put_in.ensures.full c.put_in.ensures.room c.put_in.ensures.unchanged))

pub returns-in-Err-clause-refused : goal.returns-in-Err-clause-refused
returns-in-Err-clause-refused c =
    let by = c.if-not-agree.ensures.0 refl in
    let gap = rw c.as_slice.ensures.value at c.in-Err.ensures.absent in
    rw (← c.self.view_is)
    (answer_refused c.self.inside.scoring c.self.inside.entries.items _ c.in-Err.place c.entry_of-entry.result c.args.answer.now c.put_in.result by c.entry_of-entry.ensures.entry
    gap (is_put _ _ _ _ _ c.put_in.ensures.new c.put_in.ensures.full c.put_in.ensures.room c.put_in.ensures.unchanged))

pub returns-else-is_exact-clause-kept : goal.returns-else-is_exact-clause-kept
returns-else-is_exact-clause-kept c =
    let by = c.if-not-agree.ensures.0 refl in
    let at = rw c.as_slice.ensures.value at c.in-Ok.ensures.found in
    rw (← c.self.view_is) (exact_keeps c.self.inside.scoring c.self.inside.entries.items c.in-Ok.place _ c.entry_of-entry.result c.self.invariant (rw (← by) c.entry_of-entry.ensures.holds)
    (ap (λ x. x.lower) c.entry_of-entry.ensures.entry ∙ sym (ap (λ x. x.upper) c.entry_of-entry.ensures.entry)) at c.index.ensures)

pub returns-else-is_exact-clause-book : goal.returns-else-is_exact-clause-book
returns-else-is_exact-clause-book c =
    let by = c.if-not-agree.ensures.0 refl in
    let at = rw c.as_slice.ensures.value at c.in-Ok.ensures.found in
    book_set c.self.inside.scoring c.self.inside.entries.items c.in-Ok.place c.entry_of-entry.result c.self.invariant (rw (← by) c.entry_of-entry.ensures.holds) at

pub returns-in-Err-clause-kept : goal.returns-in-Err-clause-kept
returns-in-Err-clause-kept c =
    rw (← c.self.view_is) (put_keeps c.self.inside.scoring c.self.inside.entries.items _ c.in-Err.place c.entry_of-entry.result c.put_in.result
    (is_put _ _ _ _ _ c.put_in.ensures.new c.put_in.ensures.full c.put_in.ensures.room c.put_in.ensures.unchanged))

pub returns-in-Err-clause-book : goal.returns-in-Err-clause-book
returns-in-Err-clause-book c =
    let by = c.if-not-agree.ensures.0 refl in
    let gap = rw c.as_slice.ensures.value at c.in-Err.ensures.absent in
    put_true c.self.inside.scoring c.self.inside.entries.items _ c.in-Err.place c.entry_of-entry.result c.put_in.result c.self.invariant (rw (← by) c.entry_of-entry.ensures.holds) gap
    (is_put _ _ _ _ _ c.put_in.ensures.new c.put_in.ensures.full c.put_in.ensures.room c.put_in.ensures.unchanged)
