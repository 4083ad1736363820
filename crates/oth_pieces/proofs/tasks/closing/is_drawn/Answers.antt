use Rattle.std.proofs.Common.{◌≡◌, ◌==◌, true, false, ap, sym, ◌∙◌}
use Rattle.std.specs.List.{list_any}
use Rattle.oth_pieces.proofs.Lefts.{is_listed, not_listed}
use Rattle.oth_pieces.proofs.tasks.closing.is_drawn.Goals as goal

pub returns-then-contains-clause-drawn : goal.returns-then-contains-clause-drawn
returns-then-contains-clause-drawn c =
    let has : list_any (λ y. y == c.args.number) c.list-item.result.items ≡ true =
    ap (list_any (λ y. y == c.args.number)) (sym c.deref.ensures.value) ∙ (sym c.contains.ensures.value ∙ c.if-contains.true) in
    λ _. is_listed c.args.number c.args.lists.now c.loop-list.list-index c.list-item.result c.loop-list-test.true c.list-item.is has

pub loop-list-preserved : goal.loop-list-preserved
loop-list-preserved c =
    let has : list_any (λ y. y == c.args.number) c.list-item.result.items ≡ false =
    ap (list_any (λ y. y == c.args.number)) (sym c.deref.ensures.value) ∙ (sym c.contains.ensures.value ∙ c.if-contains.false) in
    not_listed c.args.number c.args.lists.now c.loop-list.list-index c.list-item.result c.loop-list-test.true c.list-item.is has c.loop-list.invariant
