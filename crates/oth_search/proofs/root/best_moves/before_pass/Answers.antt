use Rattle.std.proofs.Common.{refl, arith}
use Rattle.std.proofs.lemmas.Int.{ints}
use Rattle.oth_search.proofs.RootLemmas.Roots.{kind-pass, none_best, negated_value}
use Rattle.oth_search.proofs.BoundsLemmas.Enclosing.{IsScore-answer}
use Rattle.oth_search.proofs.root.best_moves.before_pass.Goals as goal

pub overflow_sub-result : goal.overflow_sub-result
overflow_sub-result c =
    let a = c.args.passed in
    let s = IsScore-answer a.scoring a.board a.score a.is_value in
    omega (arith, ints, s.low, s.high)

pub invariant_of-result : goal.invariant_of-result
invariant_of-result c =
    let a = c.args.passed in
    let s = IsScore-answer a.scoring a.board a.score a.is_value in
    record {
      is_value = negated_value a.scoring c.args.board a.board a.score _ c.requires.passed c.requires.none c.requires.some a.is_value (omega (arith, ints, s.low, s.high));
      are_best = none_best a.scoring c.args.board 0 c.requires.none refl;
      fits = kind-pass c.args.board c.requires.none c.requires.some;
    }
