use Rattle.std.proofs.Common.{◌∙◌, ap, arith, rules, subst}
use Rattle.std.specs.Io.KnownBytes.{Appends}
use Rattle.othsolve.specs.Program.{lines_status}
use Rattle.othsolve.proofs.StatusLemmas.{fault_not_done, not_done}
use Rattle.othsolve.proofs.report.Goals as goal

pub run_judged-requires-clause-reader : goal.run_judged-requires-clause-reader
run_judged-requires-clause-reader g c = search rules

pub returns-in-Ok-clause-done : goal.returns-in-Ok-clause-done
returns-in-Ok-clause-done g c = λ done.
    let bytes = c.in-Ok.ensures.bytes in
    record {
      input = bytes.0;
      read = bytes.2;
      at_end = c.in-Ok.ensures.end;
      wrote = subst (λ w. Appends (g.W.Sink.contents c.args.writer.now) (g.W.Sink.contents c.run_judged.new.writer) w) bytes.4 bytes.3;
      told = c.lines_status.ensures.status ∙ ap (λ found. lines_status c.args.task.now.telling found) bytes.5;
    }

pub returns-in-Ok-clause-fails : goal.returns-in-Ok-clause-fails
returns-in-Ok-clause-fails g c = λ one. absurd (not_done _ (omega (arith, one)) (omega (arith, one)) c.lines_status.ensures.done)

pub returns-in-Err-clause-done : goal.returns-in-Err-clause-done
returns-in-Err-clause-done g c = λ done. absurd (fault_not_done _ c.in-Err.fault c.print_run_fault.ensures.status done)

pub returns-in-Err-clause-works : goal.returns-in-Err-clause-works
returns-in-Err-clause-works g c = λ done. absurd (fault_not_done _ c.in-Err.fault c.print_run_fault.ensures.status done)
