use Rattle.std.proofs.Common.{◌≡◌, arith, ◌∙◌, true, false}
use Rattle.oth_book.proofs.ReadLemmas.{entry_begins, entry_rest}
use Rattle.oth_book.proofs.text.read.read_line.Goals as goal
use Rattle.oth_book.proofs.text.read.read_line.Goals.{else-place-eq-MAX_ENTRIES-via-then-place-eq-MAX_ENTRIES+else-begins_entry_line, else-place-eq-MAX_ENTRIES-via-else-place-eq-MAX_ENTRIES}

pub returns-clause-entry : goal.returns-clause-entry
returns-clause-entry c =
    let begins = entry_begins _ _ _ c.in_ok-claim.ensures.entry in
    record {
      room = elim c.else-place-eq-MAX_ENTRIES.branch [
        | else-place-eq-MAX_ENTRIES-via-then-place-eq-MAX_ENTRIES+else-begins_entry_line w ↦ absurd (let no : false ≡ true = w.if-begins_entry_line.ensures ∙ begins in cc)
        | else-place-eq-MAX_ENTRIES-via-else-place-eq-MAX_ENTRIES w ↦ omega (arith, c.requires)
      ];
      entry = c.in_ok-claim.ensures.entry;
      above = c.in_ok-claim.ensures.above;
    }

pub returns-clause-long : goal.returns-clause-long
returns-clause-long c = (entry_rest _ _ _ c.in_ok-claim.ensures.entry).0
