use Rattle.std.proofs.Common.{◌∙◌, ap}
use Rattle.std.proofs.lemmas.Result.{on_err_weaker, on_ok_weaker}
use Rattle.oth_text.specs.Report.{report_line_of}
use Rattle.oth_run.proofs.GatherLemmas.{gathers_as, stops_in}
use Rattle.oth_run.proofs.reading.tell_answer.Goals as goal

pub returns-clause-ok : goal.returns-clause-ok
returns-clause-ok g c = on_ok_weaker c.push_report_line.result (gathers_as _ _ _ _ _ _
    (ap (λ b. report_line_of c.awaited_answer-answer.result.scoring b) c.awaited_answer-answer.ensures.board
    ∙ ap (λ s. report_line_of s c.args.asked.now.position.board) c.awaited_answer-answer.ensures.scoring)) c.push_report_line.ensures.ok

pub returns-clause-err : goal.returns-clause-err
returns-clause-err g c = on_err_weaker c.push_report_line.result (stops_in _ _ _ _) c.push_report_line.ensures.err
