use Rattle.std.proofs.Common.{[], ◌∷◌, ◌++◌, ◌∙◌, ap, refl, sym, append_assoc, append-nil}
use Rattle.oth_main.proofs.AdditionLemmas.{adding_part, full_within}
use Rattle.oth_run.proofs.GatherLemmas.{on_err_always}
use Rattle.oth_main.proofs.book.addition.Addition.take_bytes.Goals as goal

pub returns-in_err-end_line-clause-full : goal.returns-in_err-end_line-clause-full
returns-in_err-end_line-clause-full g c = on_err_always c.from_residual.result (λ before input start.
    let done = c.loop-line.invariant in
    let same = done.1 ∙ ap (λ l. done.0 ++ l) c.in-Some.ensures.joined ∙ sym (append_assoc done.0 _ _) in
    let so_far = done.2 before input start in
    let part = adding_part before _ _ _ (input ++ done.0) _ c.in-Some.ensures.line so_far (c.push.ensures _ so_far.line) in
    full_within before input _ done.0 _ _ same (rw (append_assoc (input ++ done.0) _ (10 ∷ [])) at (c.in_err-end_line.ensures.full before _ part)))

pub loop-line-init : goal.loop-line-init
loop-line-init g c = ([], refl, λ before input start. rw (append-nil input) start)

pub loop-line-preserved : goal.loop-line-preserved
loop-line-preserved g c =
    let done = c.loop-line.invariant in
    let same = done.1 ∙ ap (λ l. done.0 ++ l) c.in-Some.ensures.joined ∙ sym (append_assoc done.0 _ _) in (
      _,
      same,
      λ before input start.
          let so_far = done.2 before input start in
          let part = adding_part before _ _ _ (input ++ done.0) _ c.in-Some.ensures.line so_far (c.push.ensures _ so_far.line) in
          rw (append_assoc (input ++ done.0) _ (10 ∷ []), append_assoc input done.0 _) at (c.in_ok-end_line.ensures.ok before _ part),
    )

pub returns-clause-ok : goal.returns-clause-ok
returns-clause-ok g c = λ before input start.
    let done = c.loop-line.invariant in
    let so_far = done.2 before input start in
    let part = adding_part before _ _ _ _ _ c.in_default.ensures.none so_far (c.push-2.ensures _ so_far.line) in
    rw (append_assoc input done.0 _, ← done.1) at part
