use Rattle.std.proofs.Common.{◌∙◌, ap, neg_ℤ}
use Rattle.oth_rules.specs.Score.{score_of}
use Rattle.oth_rules.specs.Value.{value}
use Rattle.oth_rules.proofs.Scores.{in_range, negated, negated_fits}
use Rattle.oth_text.specs.Analysis.{score_of_turn}
use Rattle.oth_text.proofs.analysis.JudgedTurn.of.Goals as goal

pub overflow_sub-result : goal.overflow_sub-result
overflow_sub-result c = let a = c.args.after.now in negated_fits a.score (in_range a.scoring a.score a.board a.is_value)

pub invariant_of-result : goal.invariant_of-result
unfolding score_of_turn
invariant_of-result c =
    let a = c.args.after.now in
    let number = negated a.score (in_range a.scoring a.score a.board a.is_value) in
    record {
      of_board = c.requires.before;
      is_score = number ∙ ap neg_ℤ (a.is_value ∙ ap (λ g. value (score_of g) a.board) c.requires.scoring ∙ ap (value (score_of c.args.answer.scoring)) c.requires.after);
    }
