use Rattle.oth_search.proofs.BoundsLemmas.Enclosing.{Encloses-same, Encloses-known, IsCanonical-canonical}
use Rattle.oth_search.proofs.nws.deep.by_either_table.Goals as goal

pub by_table-requires : goal.by_table-requires
by_table-requires g c = IsCanonical-canonical c.args.board.now c.canonical.result.0 c.canonical.ensures.board

pub returns-then-is_remembered-clause-value : goal.returns-then-is_remembered-clause-value
returns-then-is_remembered-clause-value g c =
    let k = c.by_local_table.result in
    Encloses-same c.args.scoring k.scoring c.args.board.now k.board _ _ c.by_local_table.ensures.board c.by_local_table.ensures.scoring k.encloses

pub returns-clause-value : goal.returns-clause-value
returns-clause-value g c =
    let k = c.by_table.result in
    Encloses-known c.args.scoring k.scoring c.args.board.now c.canonical.result.0 k.board _ _ c.canonical.ensures.board c.by_table.ensures.board c.by_table.ensures.scoring k.encloses
