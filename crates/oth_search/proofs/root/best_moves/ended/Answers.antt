use Rattle.std.proofs.Common.{refl, arith}
use Rattle.std.proofs.lemmas.Int.{ints}
use Rattle.oth_rules.proofs.SearchLaws.{is_over-true, value-over}
use Rattle.oth_rules.specs.Score.{score_of}
use Rattle.oth_search.proofs.RootLemmas.Roots.{kind-end, none_best}
use Rattle.oth_search.proofs.root.best_moves.ended.Goals as goal

pub invariant_of-result : goal.invariant_of-result
invariant_of-result c =
    let ends = is_over-true c.args.board c.requires in
    let v = value-over (score_of c.args.scoring) c.args.board ends.0 ends.1 in
    record {
      is_value = omega (arith, ints, c.final_score.ensures, v);
      are_best = none_best c.args.scoring c.args.board 0 ends.0 refl;
      fits = kind-end c.args.board ends.0 ends.1;
    }
