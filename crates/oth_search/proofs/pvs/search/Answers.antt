use Rattle.std.proofs.Common.{◌∙◌, sym, arith}
use Rattle.std.proofs.lemmas.Int.{ints}
use Rattle.oth_search.proofs.BoundsLemmas.Enclosing.{IsScore-over, Encloses-over, Encloses-known, IsCanonical-canonical}
use Rattle.oth_search.proofs.pvs.search.Goals as goal

pub exactly-requires : goal.exactly-requires
exactly-requires g c = IsScore-over c.args.scoring c.args.board.now _ (omega (arith, ints, c.final_score.ensures))

pub returns-then-is_over-clause-encloses : goal.returns-then-is_over-clause-encloses
returns-then-is_over-clause-encloses g c =
    Encloses-over c.args.scoring c.args.board.now c.final_score.result _ _ (sym c.is_over.ensures ∙ c.if-is_over.true) c.final_score.ensures
    (omega (arith, ints, c.exactly.ensures.lower)) (omega (arith, ints, c.exactly.ensures.upper))

pub by_table-found-requires : goal.by_table-found-requires
by_table-found-requires g c = IsCanonical-canonical c.args.board.now c.canonical.result.0 c.canonical.ensures.board

pub returns-then-decides-clause-encloses : goal.returns-then-decides-clause-encloses
returns-then-decides-clause-encloses g c =
    let k = c.by_table-found.result in
    Encloses-known c.args.scoring k.scoring c.args.board.now c.canonical.result.0 k.board _ _ c.canonical.ensures.board c.by_table-found.ensures.board c.by_table-found.ensures.scoring k.encloses

pub canonical-requires-2 : goal.canonical-requires-2
canonical-requires-2 g c =
    IsCanonical-canonical c.args.board.now c.narrow-solved.result.board (c.narrow-solved.ensures.board ∙ c.by_table-found.ensures.board ∙ c.canonical.ensures.board)

pub returns-clause-encloses : goal.returns-clause-encloses
returns-clause-encloses g c =
    let k = c.narrow-solved.result in
    Encloses-known c.args.scoring k.scoring c.args.board.now c.canonical.result.0 k.board _ _ c.canonical.ensures.board
    (c.narrow-solved.ensures.board ∙ c.by_table-found.ensures.board) (c.narrow-solved.ensures.scoring ∙ c.by_table-found.ensures.scoring) k.encloses
