use Rattle.std.proofs.Common.{◌++◌, refl, sym, ap, ◌∙◌, take, length, append-nil, []}
use Rattle.std.proofs.KnownBytes.{Appends-trans}
use Rattle.oth_book.specs.Shape.{header}
use Rattle.oth_book.specs.Text.{end_line, lines}
use Rattle.oth_book.proofs.WriteLemmas.{on_err, beginning_after, beginning_longer, text_from, text_end, lines_more}
use Rattle.oth_book.proofs.text.writing.write_lines.Goals as goal

pub line_of-line-requires : goal.line_of-line-requires
line_of-line-requires g c = rw (← c.entry-item.is) at (c.requires.bounds c.loop-entry.entry-index c.entry-item.result c.loop-entry-test.true)

pub loop-entry-init : goal.loop-entry-init
loop-entry-init g c = record { written = rw (append-nil, ← c.header.ensures.text) c.in_ok-write_all.ensures.ok; works = c.in_ok-write_all.ensures.works }

pub returns-in_err-write_all-clause-err : goal.returns-in_err-write_all-clause-err
returns-in_err-write_all-clause-err g c =
    let whole = rw c.header.ensures.text at c.in_err-write_all.ensures.err in
    on_err _ _ (beginning_longer _ _ _ (lines c.args.version c.args.entries.now ++ end_line (length c.args.entries.now)) _ whole refl)

pub returns-in_err-write_all-2-clause-err : goal.returns-in_err-write_all-2-clause-err
returns-in_err-write_all-2-clause-err g c =
    let text = text_from c.args.version c.args.entries.now c.loop-entry.entry-index c.entry-item.result c.loop-entry-test.true c.entry-item.is in
    let line_is = c.line_of-line.ensures c.requires.version.0 in
    let line = rw (c.as_slice.ensures.value, line_is, ← c.requires.version.1) at c.in_err-write_all-2.ensures.err in
    on_err _ _ (beginning_after _ _ _ _ _ text.0 _ c.loop-entry.invariant.written line text.1)

pub returns-in_err-write_all-3-clause-err : goal.returns-in_err-write_all-3-clause-err
returns-in_err-write_all-3-clause-err g c =
    let text = text_end c.args.version c.args.entries.now c.loop-entry.entry-index c.loop-entry-test.false in
    let line = rw (c.as_slice-2.ensures.value, c.last_line-line.ensures) at c.in_err-write_all-3.ensures.err in
    on_err _ _ (beginning_after _ _ _ _ _ [] _ c.loop-entry.invariant.written line
    (text ∙ ap (λ xs. (header c.args.version ++ lines c.args.version (take c.loop-entry.entry-index c.args.entries.now)) ++ xs) (sym (append-nil (end_line (length c.args.entries.now))))))

pub loop-entry-preserved : goal.loop-entry-preserved
loop-entry-preserved g c =
    let line_is = c.line_of-line.ensures c.requires.version.0 in
    let line = rw (c.as_slice.ensures.value, line_is, ← c.requires.version.1) at c.in_ok-write_all-2.ensures.ok in
    let both = Appends-trans _ _ _ _ _ c.loop-entry.invariant.written line in
    record {
      written = rw (lines_more c.args.version c.args.entries.now c.loop-entry.entry-index c.entry-item.result c.loop-entry-test.true c.entry-item.is) at both;
      works = c.in_ok-write_all-2.ensures.works ∙ c.loop-entry.invariant.works;
    }

pub returns-clause-ok : goal.returns-clause-ok
returns-clause-ok g c =
    let text = text_end c.args.version c.args.entries.now c.loop-entry.entry-index c.loop-entry-test.false in
    let line = rw (c.as_slice-2.ensures.value, c.last_line-line.ensures) at c.in_ok-write_all-3.ensures.ok in
    rw text (Appends-trans _ _ _ _ _ c.loop-entry.invariant.written line)

pub returns-clause-works : goal.returns-clause-works
returns-clause-works g c = c.in_ok-write_all-3.ensures.works ∙ c.loop-entry.invariant.works
