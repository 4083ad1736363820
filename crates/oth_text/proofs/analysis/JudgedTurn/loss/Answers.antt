use Rattle.std.proofs.Common.{◌∙◌, ap, sym, subst, unsigned_abs, refl, ◌≤◌}
use Rattle.oth_rules.specs.Laws.{IsScore}
use Rattle.oth_rules.proofs.Scores.{in_range}
use Rattle.oth_text.proofs.AnalysisLemmas.{difference, loss-is, loss-most, turn_score-range}
use Rattle.oth_text.proofs.analysis.JudgedTurn.loss.Goals as goal

pub returns-clause-loss : goal.returns-clause-loss
returns-clause-loss c =
    let j = c.args.self.now in
    let a = in_range j.answer.scoring j.answer.score j.answer.board j.answer.is_value in
    let s : IsScore j.score = subst IsScore (sym j.is_score) (turn_score-range j.answer.scoring j.turn) in
    let number = c.unsigned_abs.ensures.value ∙ ap unsigned_abs (difference j.answer.score j.score _ _ _ a s c.from.ensures c.from-2.ensures refl) in
    loss-is j.answer.scoring j.turn j.answer.board _ _ _ j.of_board j.answer.is_value j.is_score number

pub returns-clause-most : goal.returns-clause-most
returns-clause-most c =
    let j = c.args.self.now in
    let a = in_range j.answer.scoring j.answer.score j.answer.board j.answer.is_value in
    let s : IsScore j.score = subst IsScore (sym j.is_score) (turn_score-range j.answer.scoring j.turn) in
    let number = c.unsigned_abs.ensures.value ∙ ap unsigned_abs (difference j.answer.score j.score _ _ _ a s c.from.ensures c.from-2.ensures refl) in
    subst (λ n. n ≤ 128) (sym number) (loss-most j.answer.score j.score a s)
