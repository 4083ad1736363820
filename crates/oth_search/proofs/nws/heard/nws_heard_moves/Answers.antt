use Rattle.std.proofs.Common.{refl, ◌∙◌, arith, w8}
use Rattle.std.specs.Prelude.{ℤ, neg_ℤ}
use Rattle.std.proofs.lemmas.Int.{ints, to_z-of_z}
use Rattle.oth_search.specs.Ordering.Keys.{key_square}
use Rattle.oth_search.specs.Ordering.Children.{IsChild}
use Rattle.oth_search.proofs.BoundsLemmas.Bytes.{read-negated, read-reply, read-reply_read}
use Rattle.oth_search.proofs.OrderingLemmas.KeyLemmas.{All-refill}
use Rattle.oth_search.proofs.BoundsLemmas.SquareSets.{Takes-same, In-none}
use Rattle.oth_search.proofs.BoundsLemmas.Replies.{BoundsAt-reply, BoundsAt-cut, ReplyLoop-start, ReplyLoop-keeps, ReplyLoop-takes, ReplyLoop-end, NoneAbove-moves}
use Rattle.oth_search.proofs.nws.heard.nws_heard_moves.Goals as goal
use Rattle.oth_search.proofs.nws.heard.nws_heard_moves.Goals.{then-empties-ge-EVALUATION_MIN_EMPTIES+in_default-bounded_by_child, else-empties-ge-EVALUATION_MIN_EMPTIES}

pub loop-left-init : goal.loop-left-init
loop-left-init g c = record {
  loop = ReplyLoop-start c.args.scoring c.args.node.board _ _ _ refl (omega (arith, ints, c.requires.threshold.low))
      (NoneAbove-moves c.args.scoring c.args.node.board c.args.node.moves _ c.args.node.legal);
  fixed = elim c.if-empties-ge-EVALUATION_MIN_EMPTIES.branch [
    | then-empties-ge-EVALUATION_MIN_EMPTIES+in_default-bounded_by_child w ↦ rw (w.cells-is) w.bounded_by_child.ensures.fixed
    | else-empties-ge-EVALUATION_MIN_EMPTIES w ↦ rw (w.cells-is) refl
  ];
  each = c.ranked-list.ensures;
}

pub next_child-child-requires-clause-legal : goal.next_child-child-requires-clause-legal
next_child-child-requires-clause-legal g c = c.loop-left.invariant.loop.replies.untried

pub nws_node-found-requires : goal.nws_node-found-requires
nws_node-found-requires g c =
    record { low = omega (arith, ints, c.requires.threshold.high); high = omega (arith, ints, c.requires.threshold.low) }

pub returns-then-score-alpha-clause-value : goal.returns-then-score-alpha-clause-value
returns-then-score-alpha-clause-value g c =
    let made = c.next_child-child.ensures.child in
    BoundsAt-cut c.args.scoring c.args.node.board (key_square c.next_child-child.result.key) c.args.alpha _ made.legal
    (BoundsAt-reply c.args.scoring c.args.node.board c.node.result.board (key_square c.next_child-child.result.key) c.args.alpha _ _ c.nws_node-found.result (c.node.ensures ∙ made.board)
    (read-reply c.args.alpha c.requires.threshold) (read-negated c.nws_node-found.result c.nws_node-found.ensures.value.score) c.nws_node-found.ensures.value)
    (omega (arith, ints, c.if-score-alpha.true))

pub loop-left-preserved : goal.loop-left-preserved
loop-left-preserved g c =
    let child = c.next_child-child.result in
    let made = c.next_child-child.ensures.child in
    let r : ℤ = neg_ℤ c.nws_node-found.result in
    record {
      loop = ReplyLoop-keeps c.args.scoring c.args.node.board _ _ (key_square child.key) _ _ r c.loop-left.invariant.loop
          (Takes-same _ _ _ _ c.square.ensures c.next_child-child.ensures.member c.without-left.ensures.rest)
          (BoundsAt-reply c.args.scoring c.args.node.board c.node.result.board (key_square child.key) _ _ r c.nws_node-found.result (c.node.ensures ∙ made.board)
          (read-reply_read c.args.alpha c.requires.threshold) refl c.nws_node-found.ensures.value)
          (omega (arith, ints, c.if-score-best.false));
      fixed = c.nws_node-found.ensures.fixed ∙ c.begin.ensures.fixed ∙ c.loop-left.invariant.fixed;
      each = All-refill (IsChild c.args.node.board) _ _ _ c.loop-left.invariant.each c.next_child-child.ensures.children;
    }

pub loop-left-preserved-then-score-best : goal.loop-left-preserved-then-score-best
loop-left-preserved-then-score-best g c =
    let child = c.next_child-child.result in
    let made = c.next_child-child.ensures.child in
    record {
      loop = ReplyLoop-takes c.args.scoring c.args.node.board _ _ (key_square child.key) _ _ _ c.loop-left.invariant.loop
          (Takes-same _ _ _ _ c.square.ensures c.next_child-child.ensures.member c.without-left.ensures.rest)
          (BoundsAt-reply c.args.scoring c.args.node.board c.node.result.board (key_square child.key) _ _ _ c.nws_node-found.result (c.node.ensures ∙ made.board)
          (read-reply_read c.args.alpha c.requires.threshold) (read-negated c.nws_node-found.result c.nws_node-found.ensures.value.score) c.nws_node-found.ensures.value)
          (omega (arith, ints, c.if-score-alpha.false))
          (omega (arith, ints, c.if-score-best.true));
      fixed = c.nws_node-found.ensures.fixed ∙ c.begin.ensures.fixed ∙ c.loop-left.invariant.fixed;
      each = All-refill (IsChild c.args.node.board) _ _ _ c.loop-left.invariant.each c.next_child-child.ensures.children;
    }

pub returns-clause-value : goal.returns-clause-value
returns-clause-value g c =
    ReplyLoop-end c.args.scoring c.args.node.board c.args.alpha _ _ _ c.loop-left.invariant.loop (to_z-of_z w8 c.args.alpha c.ranges.alpha) (In-none _ c.loop-left-test.false) c.requires.some
