use Rattle.std.proofs.Common.{◌∷◌, [], ◌++◌, ◌∙◌, ap, append-nil, sym}
use Rattle.std.proofs.lemmas.Result.{on_err_weaker, on_ok_weaker}
use Rattle.oth_text.specs.Analysis.{fault_part}
use Rattle.oth_run.proofs.GatherLemmas.{gathers_as, stops_as}
use Rattle.oth_run.proofs.game.Game.tell_fault.Goals as goal

pub returns-in-Some-clause-ok : goal.returns-in-Some-clause-ok
returns-in-Some-clause-ok g c = on_ok_weaker c.push_line.result (gathers_as _ _ _ _ _ _
    (ap (λ l. l ++ 10 ∷ []) (c.as_slice.ensures.value ∙ c.game_line.ensures.text) ∙ sym (ap (fault_part c.args.self.now.number) c.in-Some.is))) c.push_line.ensures.ok

pub returns-in-Some-clause-err : goal.returns-in-Some-clause-err
returns-in-Some-clause-err g c = on_err_weaker c.push_line.result (stops_as _ _ _ _ _
    (ap (λ l. l ++ 10 ∷ []) (c.as_slice.ensures.value ∙ c.game_line.ensures.text) ∙ sym (ap (fault_part c.args.self.now.number) c.in-Some.is))) c.push_line.ensures.err

pub returns-in-None-clause-ok : goal.returns-in-None-clause-ok
returns-in-None-clause-ok g c = λ before done gathered. rw (ap (fault_part c.args.self.now.number) c.in-None.is, append-nil done) gathered
