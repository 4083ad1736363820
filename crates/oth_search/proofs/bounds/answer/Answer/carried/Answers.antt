use Rattle.std.proofs.Common.{sym, ap, ◌∙◌, arith}
use Rattle.std.proofs.lemmas.Int.{ints}
use Rattle.oth_rules.specs.Symmetry.{map_word}
use Rattle.oth_search.proofs.RootLemmas.Roots.{kind-image}
use Rattle.oth_search.proofs.bounds.answer.Answer.carried.Goals as goal

pub invariant_of-result : goal.invariant_of-result
invariant_of-result c =
    let a = c.args.self.now in
    record {
      is_value = omega (arith, ints, a.is_value, c.image.ensures.same_value a.scoring);
      are_best = c.map.ensures.value ∙ ap (map_word c.args.sym) a.are_best ∙ sym (c.image.ensures.best_carried a.scoring);
      fits = a.fits ∙ sym (kind-image c.args.sym a.board c.image.result c.image.ensures.valid c.image.ensures.image);
    }
