use Rattle.std.proofs.Common.{refl, ◌∙◌, arith}
use Rattle.std.proofs.lemmas.Int.{ints}
use Rattle.oth_search.proofs.BoundsLemmas.Bytes.{read-negated, IsScore-lower}
use Rattle.oth_search.proofs.BoundsLemmas.Enclosing.{same_scoring}
use Rattle.oth_search.proofs.BoundsLemmas.SquareSets.{Takes-without, In-none}
use Rattle.oth_search.proofs.BoundsLemmas.Replies.{legal-moves}
use Rattle.oth_search.proofs.RootLemmas.Few.{moves-legal}
use Rattle.oth_search.proofs.RootLemmas.Roots.{RootLoop-start, RootLoop-worse, RootLoop-reached, RootLoop-score, RootLoop-best, gives_less, kind-move}
use Rattle.oth_search.proofs.root.few.solve_few.Goals as goal

pub loop-left-init : goal.loop-left-init
loop-left-init c =
    let root = c.args.root.now in
    RootLoop-start root.scoring root.board _ _ _ _ _ root.interval.is_interval root.encloses (omega (arith, ints)) refl
    (legal-moves root.board _ c.moves_by_lines-left.ensures)
    (moves-legal root.board _ c.moves_by_lines-left.ensures)

pub play_legal-requires : goal.play_legal-requires
play_legal-requires c = c.loop-left.invariant.untried c.preferred-square.result c.preferred-square.ensures

pub loop-left-preserved-then-reply-best : goal.loop-left-preserved-then-reply-best
loop-left-preserved-then-reply-best c =
    let root = c.args.root.now in
    let child = c.at_most.result in
    let s = c.preferred-square.result in
    RootLoop-worse root.scoring root.board _ s _ _ _ c.loop-left.invariant
    (Takes-without _ _ _ c.preferred-square.ensures c.without-left.ensures.rest)
    (gives_less root.scoring root.board child.board s _ child.interval.lower child.interval.upper (c.at_most.ensures.board ∙ c.play_legal.ensures)
    (same_scoring root.scoring child.scoring child.board _ _ c.at_most.ensures.scoring child.encloses)
    (omega (arith, ints, c.if-reply-best.true)))

pub loop-left-preserved : goal.loop-left-preserved
loop-left-preserved c =
    let root = c.args.root.now in
    let child = c.at_most.result in
    let s = c.preferred-square.result in
    let found = c.with-best.ensures in
    let range = c.loop-left.invariant.range in
    RootLoop-reached root.scoring root.board child.board _ s _ c.loop-left.best.score _ child.interval.lower child.interval.upper _ _ _ _ c.loop-left.invariant
    (Takes-without _ _ _ c.preferred-square.ensures c.without-left.ensures.rest)
    (c.at_most.ensures.board ∙ c.play_legal.ensures)
    (same_scoring root.scoring child.scoring child.board _ _ c.at_most.ensures.scoring child.encloses)
    child.interval.is_interval c.at_most.ensures.decides
    refl (omega (arith, ints, range.low, range.high))
    (omega (arith, ints, range.low, range.high, c.if-reply-best.false))
    (found.score ∙ read-negated child.interval.lower (IsScore-lower child.interval.lower child.interval.upper child.interval.is_interval))
    (λ same. found.equal (omega (arith, ints, range.low, range.high, found.score, same)))
    (λ more. found.better (omega (arith, ints, range.low, range.high, found.score, more)))

pub of-requires-clause-score : goal.of-requires-clause-score
of-requires-clause-score c =
    let root = c.args.root.now in
    let l = c.loop-left.invariant in
    omega (arith, ints, RootLoop-score root.scoring root.board _ _ _ l (In-none c.loop-left.left c.loop-left-test.false) c.requires)

pub of-requires-clause-best : goal.of-requires-clause-best
of-requires-clause-best c =
    let root = c.args.root.now in
    let l = c.loop-left.invariant in
    let none = In-none c.loop-left.left c.loop-left-test.false in
    RootLoop-best root.scoring root.board _ _ _ c.type_inv.best.1.0.1 l none (RootLoop-score root.scoring root.board _ _ _ l none c.requires)

pub of-requires-clause-kind : goal.of-requires-clause-kind
of-requires-clause-kind c = kind-move c.args.root.now.board c.requires
