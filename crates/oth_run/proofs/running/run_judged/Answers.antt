use Rattle.std.proofs.Common.{◌∙◌, [], Err, refl, subst, sym, true≢false}
use Rattle.std.proofs.KnownBytes.{Appends-nil, Consumes-nil}
use Rattle.std.proofs.lemmas.Result.{err_from_is_err_and}
use Rattle.oth_words.specs.declared.settings.Settings.{Settings}
use Rattle.oth_run.specs.Reply.{reply}
use Rattle.oth_run.specs.Run.{Writes}
use Rattle.oth_run.proofs.CutLemmas.{after_fault, faulty_all, refused_writes, up_to_waiting, written_report, written_beginning}
use Rattle.oth_run.proofs.running.run_judged.Goals as goal

pub returns-in_err-lawful-clause-bytes : goal.returns-in_err-lawful-clause-bytes
returns-in_err-lawful-clause-bytes g c =
    let p = err_from_is_err_and c.from_residual.result c.from_residual.ensures.1 in
    let err = c.in_err-lawful in
    let writes = refused_writes c.args.settings.now err.field-0.0 (λ lawful. true≢false (sym (err.ensures.lawful.1 lawful))) err.ensures.refused in
    ([], [], Consumes-nil _, Appends-nil _, rw (p.1, p.2) writes, rw p.1 tt)

pub returns-in_err-run_ended-clause-bytes : goal.returns-in_err-run_ended-clause-bytes
returns-in_err-run_ended-clause-bytes g c =
    let p = err_from_is_err_and c.from_residual-in_err-run_ended.result c.from_residual-in_err-run_ended.ensures.1 in
    let ended = c.in_err-run_ended.ensures.bytes in
    let after = after_fault c.of-solver.result.settings c.run_ended.new.self.line c.run_ended.new.self.is_faulty _ _ c.in_err-run_ended.field-0.0 _ ended.2 in
    let P : Settings → Type 0 = λ settings. Writes (reply settings) (Err c.in_err-run_ended.field-0.0) ended.0 after.0 in
    (ended.0, after.0, ended.1, after.1, rw (p.1, p.2) (subst P (c.of-solver.ensures ∙ c.in_ok-lawful.ensures.same) after.2), rw p.1 tt)

pub returns-in-Ok-clause-bytes : goal.returns-in-Ok-clause-bytes
returns-in-Ok-clause-bytes g c =
    let ended = c.in_ok-run_ended.ensures.bytes in
    let so_far = up_to_waiting _ _ _ _ _ _ c.in_ok-run_ended.ensures.empty ended.2 in
    let judged = faulty_all c.of-solver.result.settings.command ended.0 _ _ so_far.lines.faulty (c.is_faulty.ensures ∙ c.in-Ok.ensures.faulty _ _ so_far.lines.held) in
    rw (sym (c.of-solver.ensures ∙ c.in_ok-lawful.ensures.same))
    (ended.0, _, ended.1, written_report (reply c.of-solver.result.settings) _ _ ended.0 (c.in-Ok.ensures.ok _ _ _ _ so_far.lines.held so_far.gathered), refl, judged)

pub returns-clause-bytes : goal.returns-clause-bytes
returns-clause-bytes g c =
    let ended = c.in_ok-run_ended.ensures.bytes in
    let so_far = up_to_waiting _ _ _ _ _ _ c.in_ok-run_ended.ensures.empty ended.2 in
    let part = written_beginning (reply c.of-solver.result.settings) _ _ ended.0 (c.in-Err.ensures.err _ _ _ _ so_far.lines.held so_far.gathered) in
    rw (sym (c.of-solver.ensures ∙ c.in_ok-lawful.ensures.same)) (ended.0, part.0, ended.1, part.1, part.2, tt)
