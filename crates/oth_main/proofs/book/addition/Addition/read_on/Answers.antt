use Rattle.std.proofs.Common.{[], ◌++◌, ◌∙◌, refl, append_assoc, append-nil, arith, rules}
use Rattle.std.proofs.KnownBytes.{Consumes-nil, Consumes-trans}
use Rattle.std.proofs.lemmas.Result.{err_from_is_err_and}
use Rattle.oth_main.proofs.AdditionLemmas.{stops_reading}
use Rattle.oth_main.proofs.book.addition.Addition.read_on.Goals as goal

pub loop-init : goal.loop-init
loop-init g c = record {
  iterator = (tt, tt);
  done = ([], Consumes-nil _, λ before input start. rw (append-nil input) start);
  works = refl;
  room = c.requires.room;
}

pub loop-preserved : goal.loop-preserved
loop-preserved g c =
    let done = c.loop.invariant.done in
    record {
      iterator = (tt, tt);
      done = (
        done.0 ++ _,
        Consumes-trans _ _ _ _ _ done.1 c.in-Ok.ensures.bytes.0,
        λ before input start. rw (append_assoc input done.0 _) at (c.in_ok-take_beside.ensures.ok before _ (done.2 before input start)),
      );
      works = c.in-Ok.ensures.works ∙ c.loop.invariant.works;
      room = omega (arith, c.in-Ok.ensures.bound, c.if-count-eq0.false);
    }

pub returns-in_err-take_beside-clause-err : goal.returns-in_err-take_beside-clause-err
returns-in_err-take_beside-clause-err g c =
    let p = err_from_is_err_and c.from_residual.result c.from_residual.ensures.1 in
    let done = c.loop.invariant.done in
    rw (p.1, p.2) (stops_reading c.in_err-take_beside.field-0.0 _ _ c.in_err-take_beside.ensures.refused (
      done.0 ++ _,
      Consumes-trans _ _ _ _ _ done.1 c.in-Ok.ensures.bytes.0,
      λ before input start. rw (append_assoc input done.0 _) at (c.in_err-take_beside.ensures.full before _ (done.2 before input start)),
    ))

pub returns-clause-at_end : goal.returns-clause-at_end
returns-clause-at_end g c = search rules
