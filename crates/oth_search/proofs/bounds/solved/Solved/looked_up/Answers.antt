use Rattle.oth_search.proofs.BoundsLemmas.Enclosing.{IsCanonical-canonical, Encloses-known}
use Rattle.oth_search.proofs.bounds.solved.Solved.looked_up.Goals as goal

pub by_table-found-requires : goal.by_table-found-requires
by_table-found-requires g c = IsCanonical-canonical c.args.board.now c.canonical.result.0 c.canonical.ensures.board

pub invariant_of-result : goal.invariant_of-result
invariant_of-result g c =
    let k = c.by_table-found.result in
    record {
      encloses =
          Encloses-known c.args.scoring k.scoring c.args.board.now c.canonical.result.0 k.board _ _ c.canonical.ensures.board c.by_table-found.ensures.board c.by_table-found.ensures.scoring
          k.encloses;
    }
