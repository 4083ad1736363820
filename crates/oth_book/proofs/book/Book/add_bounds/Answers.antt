use Rattle.std.proofs.Common.{◌≡◌, ◌∙◌, refl, sym, ap, true, false}
use Rattle.oth_book.specs.Contents.{Contents}
use Rattle.oth_book.proofs.AddLemmas.{closer_set, bounds_holds, put_true, is_put, bounds_one_new, bounds_sharper, bounds_new, bounds_refused}
use Rattle.oth_book.proofs.KeepLemmas.{closer_keeps, put_keeps}
use Rattle.oth_book.proofs.book.Book.add_bounds.Goals as goal

pub invariant_of-self : goal.invariant_of-self
invariant_of-self c =
    let by = c.in_ok-check_askable.ensures.ok.scoring ∙ sym (ap (λ (b : Contents). b.scoring) c.self.view_is) in
    let at = rw c.as_slice.ensures.value at c.in-Ok.ensures.found in
    closer_set c.self.inside.scoring c.self.inside.entries.items c.in-Ok.place _ c.bounds_of-entry.result c.closer_of-closer.result c.args.solved.now c.self.invariant by
    c.bounds_of-entry.ensures at c.index.ensures c.closer_of-closer.ensures
    (λ h. let no : false ≡ true = c.if-is_exact.ensures.1 h in cc)

pub invariant_of-self-in-Err : goal.invariant_of-self-in-Err
invariant_of-self-in-Err c =
    let by = c.in_ok-check_askable.ensures.ok.scoring ∙ sym (ap (λ (b : Contents). b.scoring) c.self.view_is) in
    let few = c.in_ok-check_askable.ensures.ok.empties in
    let gap = rw c.as_slice.ensures.value at c.in-Err.ensures.absent in
    let entry = bounds_holds c.self.inside.scoring c.args.solved.now c.bounds_of-entry.result by few c.bounds_of-entry.ensures (λ h. let no : false ≡ true = c.if-is_exact-2.ensures.1 h in cc) in
    put_true c.self.inside.scoring c.self.inside.entries.items _ c.in-Err.place c.bounds_of-entry.result c.put_in.result c.self.invariant entry gap
    (is_put _ _ _ _ _ c.put_in.ensures.new c.put_in.ensures.full c.put_in.ensures.room c.put_in.ensures.unchanged)

pub returns-then-is_exact-2-clause-refused : goal.returns-then-is_exact-2-clause-refused
returns-then-is_exact-2-clause-refused c =
    let gap = rw c.as_slice.ensures.value at c.in-Err.ensures.absent in
    rw (← c.self.view_is) (bounds_one_new c.self.inside.scoring c.self.inside.entries.items c.in-Err.place c.bounds_of-entry.result c.args.solved.now
    (rw c.self.view_is c.in_ok-check_askable.ensures.ok) c.bounds_of-entry.ensures gap
    (c.if-is_exact-2.ensures.0 refl))

pub returns-else-is_exact-clause-added : goal.returns-else-is_exact-clause-added
returns-else-is_exact-clause-added c =
    let at = rw c.as_slice.ensures.value at c.in-Ok.ensures.found in
    rw (← c.self.view_is)
    (bounds_sharper c.self.inside.scoring c.self.inside.entries.items c.in-Ok.place _ c.bounds_of-entry.result c.closer_of-closer.result c.args.solved.now c.bounds_of-entry.ensures
    at c.index.ensures c.closer_of-closer.ensures (λ h. let no : false ≡ true = c.if-same_bounds.ensures.1 h in cc)
    (λ h. let no : false ≡ true = c.if-is_exact.ensures.1 h in cc))

pub returns-else-is_exact-2-clause-added : goal.returns-else-is_exact-2-clause-added
returns-else-is_exact-2-clause-added c =
    let gap = rw c.as_slice.ensures.value at c.in-Err.ensures.absent in
    rw (← c.self.view_is) (bounds_new c.self.inside.scoring c.self.inside.entries.items _ c.in-Err.place c.bounds_of-entry.result c.args.solved.now c.put_in.result c.bounds_of-entry.ensures
    (λ h. let no : false ≡ true = c.if-is_exact-2.ensures.1 h in cc) gap
    (is_put _ _ _ _ _ c.put_in.ensures.new c.put_in.ensures.full c.put_in.ensures.room c.put_in.ensures.unchanged))

pub returns-else-is_exact-2-clause-refused : goal.returns-else-is_exact-2-clause-refused
returns-else-is_exact-2-clause-refused c =
    let gap = rw c.as_slice.ensures.value at c.in-Err.ensures.absent in
    rw (← c.self.view_is) (bounds_refused c.self.inside.scoring c.self.inside.entries.items _ c.in-Err.place c.bounds_of-entry.result c.args.solved.now c.put_in.result
    (rw c.self.view_is c.in_ok-check_askable.ensures.ok) c.bounds_of-entry.ensures
    (λ h. let no : false ≡ true = c.if-is_exact-2.ensures.1 h in cc) gap
    (is_put _ _ _ _ _ c.put_in.ensures.new c.put_in.ensures.full c.put_in.ensures.room c.put_in.ensures.unchanged))

pub returns-else-is_exact-clause-kept : goal.returns-else-is_exact-clause-kept
returns-else-is_exact-clause-kept c =
    let at = rw c.as_slice.ensures.value at c.in-Ok.ensures.found in
    rw (← c.self.view_is)
    (closer_keeps c.self.inside.scoring c.self.inside.entries.items c.in-Ok.place _ c.closer_of-closer.result c.args.solved.now at.within c.index.ensures c.closer_of-closer.ensures)

pub returns-else-is_exact-clause-book : goal.returns-else-is_exact-clause-book
returns-else-is_exact-clause-book c =
    let by = c.in_ok-check_askable.ensures.ok.scoring ∙ sym (ap (λ (b : Contents). b.scoring) c.self.view_is) in
    let at = rw c.as_slice.ensures.value at c.in-Ok.ensures.found in
    closer_set c.self.inside.scoring c.self.inside.entries.items c.in-Ok.place _ c.bounds_of-entry.result c.closer_of-closer.result c.args.solved.now c.self.invariant by
    c.bounds_of-entry.ensures at c.index.ensures c.closer_of-closer.ensures
    (λ h. let no : false ≡ true = c.if-is_exact.ensures.1 h in cc)

pub returns-else-is_exact-2-clause-kept : goal.returns-else-is_exact-2-clause-kept
returns-else-is_exact-2-clause-kept c =
    rw (← c.self.view_is) (put_keeps c.self.inside.scoring c.self.inside.entries.items _ c.in-Err.place c.bounds_of-entry.result c.put_in.result
    (is_put _ _ _ _ _ c.put_in.ensures.new c.put_in.ensures.full c.put_in.ensures.room c.put_in.ensures.unchanged))

pub returns-else-is_exact-2-clause-book : goal.returns-else-is_exact-2-clause-book
returns-else-is_exact-2-clause-book c =
    let by = c.in_ok-check_askable.ensures.ok.scoring ∙ sym (ap (λ (b : Contents). b.scoring) c.self.view_is) in
    let few = c.in_ok-check_askable.ensures.ok.empties in
    let gap = rw c.as_slice.ensures.value at c.in-Err.ensures.absent in
    let entry = bounds_holds c.self.inside.scoring c.args.solved.now c.bounds_of-entry.result by few c.bounds_of-entry.ensures (λ h. let no : false ≡ true = c.if-is_exact-2.ensures.1 h in cc) in
    put_true c.self.inside.scoring c.self.inside.entries.items _ c.in-Err.place c.bounds_of-entry.result c.put_in.result c.self.invariant entry gap
    (is_put _ _ _ _ _ c.put_in.ensures.new c.put_in.ensures.full c.put_in.ensures.room c.put_in.ensures.unchanged)
