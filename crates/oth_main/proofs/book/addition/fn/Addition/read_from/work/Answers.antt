use Rattle.std.proofs.Common.{[], ◌++◌, append_assoc, append-nil, take}
use Rattle.std.proofs.KnownBytes.{Consumes-nil}
use Rattle.std.proofs.lemmas.Result.{IfErr-weaker, err_from_is_err_and, on_ok_weaker}
use Rattle.oth_main.proofs.AdditionLemmas.{stops_reading, stops_weaker}
use Rattle.oth_main.proofs.book.addition.fn.Addition.read_from.work.Goals as goal

pub returns-in_err-take_beside : goal.returns-in_err-take_beside
returns-in_err-take_beside g c =
    let p = err_from_is_err_and c.from_residual.result c.from_residual.ensures.1 in
    rw (p.1, p.2) (record {
      ok = tt;
      at_end = tt;
      works = tt;
      err = stops_reading c.in_err-take_beside.field-0.0 _ _ c.in_err-take_beside.ensures.refused (
        [],
        Consumes-nil _,
        λ before input start. rw (append-nil (take c.captures.count c.captures.buffer.now)) (c.in_err-take_beside.ensures.full before input start),
      );
    })

pub returns : goal.returns
returns g c =
    let first = take c.captures.count c.captures.buffer.now in
    record {
      ok = on_ok_weaker c.read_on.result (λ d. (
        d.0,
        d.1,
        λ before input start. rw (append_assoc input first d.0) at (d.2 before _ (c.in_ok-take_beside.ensures.ok before input start)),
      )) c.read_on.ensures.ok;
      at_end = c.read_on.ensures.at_end;
      works = c.read_on.ensures.works;
      err = IfErr-weaker c.read_on.result _ _ (λ stop. stops_weaker stop _ _ _ (λ d. (
        d.0,
        d.1,
        λ before input start. rw (append_assoc input first d.0) at (d.2 before _ (c.in_ok-take_beside.ensures.ok before input start)),
      ))) c.read_on.ensures.err;
    }
