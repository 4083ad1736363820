use Rattle.std.proofs.Common.{sym, arith}
use Rattle.std.proofs.lemmas.Int.{ints}
use Rattle.std.proofs.lemmas.List.Elements.{All-contains}
use Rattle.oth_search.specs.Ordering.Keys.{key_square}
use Rattle.oth_search.specs.Ordering.Children.{IsChild}
use Rattle.oth_search.proofs.BoundsLemmas.Enclosing.{BoundsAt-child}
use Rattle.oth_search.proofs.nws.deep.bounded_by_child.Goals as goal

pub returns-then-score-alpha-clause-value : goal.returns-then-score-alpha-clause-value
returns-then-score-alpha-clause-value g c =
    let child = c.child-item.result in
    let k = c.by_either_table-told.result in
    let made = All-contains (IsChild c.args.parent.now) c.args.children.now child c.requires (c.loop-child.child-index, c.loop-child-test.true, sym c.child-item.is) in
    BoundsAt-child c.args.scoring c.args.parent.now child.board (key_square child.key) c.args.alpha k.interval.lower k.interval.upper _ made.legal made.board
    k.interval.is_interval
    c.by_either_table-told.ensures.value
    (omega (arith, ints))
    (omega (arith, ints, c.if-score-alpha.true))
