use Rattle.std.proofs.Common.{[], ◌++◌, ◌∙◌, append_assoc, append-nil, arith, rules, take}
use Rattle.std.proofs.KnownBytes.{Consumes-kept, Consumes-nil, Consumes-trans}
use Rattle.oth_run.proofs.CutLemmas.{goes_on, up_to_no_waiting}
use Rattle.oth_run.proofs.GatherLemmas.{gathered_all}
use Rattle.oth_run.proofs.engine.Engine.run_on.Goals as goal

pub loop-init : goal.loop-init
loop-init g c = record {
  iterator = (tt, tt);
  done = ([], [], Consumes-nil _, append-nil _, λ before input start. rw (append-nil input) start);
  room = c.requires.room;
  bound = c.requires.count;
  reader = c.requires.reader;
  writer = c.requires.writer;
}

pub loop-preserved : goal.loop-preserved
loop-preserved g c =
    let done = c.loop.invariant.done in
    record {
      iterator = (tt, tt);
      done = (
        done.0 ++ take c.loop.count c.loop.buffer,
        done.1 ++ _,
        Consumes-trans _ _ _ _ _ done.2 c.in-Ok-read.ensures.bytes.0,
        goes_on (take c.args.count c.args.buffer.now) done.1 done.0 (take c.loop.count c.loop.buffer) _ done.3,
        λ before input start.
            rw (append_assoc input done.0 _) at (c.in-Ok.ensures.ok before _ (done.4 before input start)),
      );
      room = omega (arith, c.in-Ok-read.ensures.bound, c.if-further-eq0.false);
      bound = omega (arith, c.in-Ok-read.ensures.bound);
      reader = c.in-Ok-read.ensures.works ∙ c.loop.invariant.reader;
      writer = c.in-Ok.ensures.works ∙ c.loop.invariant.writer;
    }

pub returns-in_default-clause-bytes : goal.returns-in_default-clause-bytes
returns-in_default-clause-bytes g c =
    let done = c.loop.invariant.done in (
      done.1,
      done.2,
      λ before input start.
          rw (append_assoc input done.0 _, ← done.3) at (c.in_default.ensures.err before _ (done.4 before input start)),
    )

pub returns-in_default-read-clause-bytes : goal.returns-in_default-read-clause-bytes
returns-in_default-read-clause-bytes g c =
    let done = c.loop.invariant.done in (
      done.1,
      Consumes-kept _ _ _ _ done.2 c.in_default-read.ensures.bytes,
      λ before input start.
          let so_far = up_to_no_waiting _ _ _ _ _ _ c.in-Ok.ensures.empty (c.in-Ok.ensures.ok before _ (done.4 before input start)) in
          rw (append_assoc input done.0 _, ← done.3) at (gathered_all before _ _ so_far.gathered),
    )

pub returns-then-further-eq0-clause-bytes : goal.returns-then-further-eq0-clause-bytes
returns-then-further-eq0-clause-bytes g c =
    let done = c.loop.invariant.done in (
      done.1,
      search rules,
      λ before input start.
          let so_far = up_to_no_waiting _ _ _ _ _ _ c.in-Ok.ensures.empty (c.in-Ok.ensures.ok before _ (done.4 before input start)) in
          rw (append_assoc input done.0 _, ← done.3) at so_far,
    )
