use Rattle.oth_search.proofs.BoundsLemmas.KindLemmas.{kind-move, kind-pass, kind-end}
use Rattle.oth_search.proofs.bounds.kind.Kind.of.Goals as goal

pub returns-then-moves_by_lines-ne0 : goal.returns-then-moves_by_lines-ne0
returns-then-moves_by_lines-ne0 c = kind-move _ _ c.moves_by_lines.ensures c.if-moves_by_lines-ne0.true

pub returns-then-moves_by_lines-ne0-2 : goal.returns-then-moves_by_lines-ne0-2
returns-then-moves_by_lines-ne0-2 c =
    kind-pass _ _ _ _ c.moves_by_lines.ensures c.if-moves_by_lines-ne0.false c.pass.ensures c.moves_by_lines-else-moves_by_lines-ne0.ensures c.if-moves_by_lines-ne0-2.true

pub returns-else-moves_by_lines-ne0-2 : goal.returns-else-moves_by_lines-ne0-2
returns-else-moves_by_lines-ne0-2 c =
    kind-end _ _ _ _ c.moves_by_lines.ensures c.if-moves_by_lines-ne0.false c.pass.ensures c.moves_by_lines-else-moves_by_lines-ne0.ensures c.if-moves_by_lines-ne0-2.false
