use Rattle.std.proofs.lemmas.Result.{err_from_is_err_and}
use Rattle.std.proofs.Common.{refl}
use Rattle.oth_main.proofs.AdditionLemmas.{on_ok_both, stops_by, stops_reading}
use Rattle.oth_main.proofs.book.addition.Addition.run.Goals as goal

pub returns-in_err-read_lines-clause-err : goal.returns-in_err-read_lines-clause-err
returns-in_err-read_lines-clause-err g c =
    let p = err_from_is_err_and c.from_residual.result c.from_residual.ensures.1 in
    rw (p.1, p.2) (stops_by c.in_err-read_lines.field-0.0 _ _ _ _ c.in_err-read_lines.ensures.err refl)

pub returns-in_err-end_last-clause-err : goal.returns-in_err-end_last-clause-err
returns-in_err-end_last-clause-err g c =
    let p = err_from_is_err_and c.from_residual-in_err-end_last.result c.from_residual-in_err-end_last.ensures.1 in
    let done = c.in_ok-read_lines.ensures.ok in
    rw (p.1, p.2) (stops_by c.in_err-end_last.field-0.0 _ _ _ _ (stops_reading c.in_err-end_last.field-0.0 _ _ c.in_err-end_last.ensures.refused (record {
      input = done.0;
      read = done.1;
      full = c.in_err-end_last.ensures.full _ done.0 done.2;
    })) refl)

pub returns-clause-ok : goal.returns-clause-ok
returns-clause-ok g c = on_ok_both c.write_to.result c.write_to.ensures.text c.write_to.ensures.ok (λ text wrote.
    let done = c.in_ok-read_lines.ensures.ok in
    let added = c.in_ok-end_last.ensures.ok _ done.0 done.2 in
    record {
      input = done.0;
      read = done.1;
      at_end = c.in_ok-read_lines.ensures.at_end;
      after = _;
      extends = added.extends;
      answered = added.answered;
      text = text;
      wrote = wrote;
    })
