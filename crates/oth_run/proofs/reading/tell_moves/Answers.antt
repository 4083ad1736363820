use Rattle.std.proofs.Common.{◌∙◌}
use Rattle.std.proofs.lemmas.Result.{on_err_weaker, on_ok_weaker}
use Rattle.oth_run.proofs.GatherLemmas.{gathers_as, stops_in}
use Rattle.oth_run.proofs.reading.tell_moves.Goals as goal

pub returns-clause-ok : goal.returns-clause-ok
returns-clause-ok g c = on_ok_weaker c.push_text.result (gathers_as _ _ _ _ _ _ (c.as_slice.ensures.value ∙ c.moves_line.ensures.text)) c.push_text.ensures.ok

pub returns-clause-err : goal.returns-clause-err
returns-clause-err g c = on_err_weaker c.push_text.result (stops_in _ _ _ _) c.push_text.ensures.err
