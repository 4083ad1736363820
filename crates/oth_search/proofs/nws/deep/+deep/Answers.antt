use Rattle.std.proofs.Common.{refl, sym, subst, ◌∙◌, arith, w8}
use Rattle.std.specs.Prelude.{ℤ, neg_ℤ}
use Rattle.std.proofs.lemmas.Int.{ints, to_z-of_z}
use Rattle.std.proofs.lemmas.List.Elements.{All-nil}
use Rattle.std.specs.List.{All}
use Rattle.oth_search.specs.Ordering.Keys.{key_square}
use Rattle.oth_search.specs.Ordering.Children.{IsChild}
use Rattle.oth_search.proofs.BoundsLemmas.Bytes.{read-lower, read-negated, read-reply, read-reply_read, read-upper}
use Rattle.oth_search.proofs.OrderingLemmas.KeyLemmas.{All-refill}
use Rattle.oth_search.proofs.BoundsLemmas.SquareSets.{Takes-same, In-none}
use Rattle.oth_search.proofs.BoundsLemmas.Enclosing.{BoundsAt-lower, BoundsAt-upper, BoundsAt-same, Encloses-known, Encloses-same, value-known, IsCanonical-canonical}
use Rattle.oth_search.proofs.BoundsLemmas.Replies.{BoundsAt-reply, BoundsAt-cut, BoundsAt-pass, BoundsAt-over, ReplyLoop-start, ReplyLoop-keeps, ReplyLoop-takes}
use Rattle.oth_search.proofs.BoundsLemmas.Replies.{ReplyLoop-end, NoneAbove-moves, can_move-from_moves, can_move-from_none, fewer_after, same_after_pass}
use Rattle.oth_search.proofs.nws.deep.+deep.Goals as goal

pub nws_kept-by_table-known-requires : goal.nws_kept-by_table-known-requires
nws_kept-by_table-known-requires g t c = IsCanonical-canonical c.args.node.board c.canonical.result.0 c.canonical.ensures.board

pub nws_kept-returns-then-known-alpha-clause-value : goal.nws_kept-returns-then-known-alpha-clause-value
nws_kept-returns-then-known-alpha-clause-value g t c =
    let k = c.by_table-known.result in
    BoundsAt-lower _ c.args.alpha k.interval.lower k.interval.upper _
    (Encloses-known c.args.scoring k.scoring c.args.node.board c.canonical.result.0 k.board _ _ c.canonical.ensures.board c.by_table-known.ensures.board c.by_table-known.ensures.scoring k.encloses)
    k.interval.is_interval
    (read-lower k.interval.lower k.interval.upper k.interval.is_interval)
    (omega (arith, ints, c.if-known-alpha.true))

pub nws_kept-returns-then-known-alpha-2-clause-value : goal.nws_kept-returns-then-known-alpha-2-clause-value
nws_kept-returns-then-known-alpha-2-clause-value g t c =
    let k = c.by_table-known.result in
    BoundsAt-upper _ c.args.alpha k.interval.lower k.interval.upper _
    (Encloses-known c.args.scoring k.scoring c.args.node.board c.canonical.result.0 k.board _ _ c.canonical.ensures.board c.by_table-known.ensures.board c.by_table-known.ensures.scoring k.encloses)
    k.interval.is_interval
    (read-upper k.interval.lower k.interval.upper k.interval.is_interval)
    (omega (arith, ints, c.if-known-alpha-2.true))

pub nws_kept-narrowed-requires : goal.nws_kept-narrowed-requires
nws_kept-narrowed-requires g t c =
    let k = c.by_table-known.result in
    BoundsAt-same _ _ _ _ _ _
    (value-known c.args.scoring k.scoring c.args.node.board c.canonical.result.0 k.board c.canonical.ensures.board c.by_table-known.ensures.board c.by_table-known.ensures.scoring)
    refl (to_z-of_z w8 c.nws_ordered-found.result (record { sfits = c.nws_ordered-found.type_inv })) c.nws_ordered-found.ensures.value

pub nws_kept-canonical-requires-2 : goal.nws_kept-canonical-requires-2
nws_kept-canonical-requires-2 g t c =
    IsCanonical-canonical c.args.node.board c.narrowed.result.board (c.narrowed.ensures.board ∙ c.by_table-known.ensures.board ∙ c.canonical.ensures.board)

pub nws_remembered-returns-then-recalled-alpha-clause-value : goal.nws_remembered-returns-then-recalled-alpha-clause-value
nws_remembered-returns-then-recalled-alpha-clause-value g t c =
    let k = c.by_local_table-recalled.result in
    BoundsAt-lower _ c.args.alpha k.interval.lower k.interval.upper _
    (Encloses-same c.args.scoring k.scoring c.args.node.board k.board _ _ c.by_local_table-recalled.ensures.board c.by_local_table-recalled.ensures.scoring k.encloses)
    k.interval.is_interval
    (read-lower k.interval.lower k.interval.upper k.interval.is_interval)
    (omega (arith, ints, c.if-recalled-alpha.true))

pub nws_remembered-returns-then-recalled-alpha-2-clause-value : goal.nws_remembered-returns-then-recalled-alpha-2-clause-value
nws_remembered-returns-then-recalled-alpha-2-clause-value g t c =
    let k = c.by_local_table-recalled.result in
    BoundsAt-upper _ c.args.alpha k.interval.lower k.interval.upper _
    (Encloses-same c.args.scoring k.scoring c.args.node.board k.board _ _ c.by_local_table-recalled.ensures.board c.by_local_table-recalled.ensures.scoring k.encloses)
    k.interval.is_interval
    (read-upper k.interval.lower k.interval.upper k.interval.is_interval)
    (omega (arith, ints, c.if-recalled-alpha-2.true))

pub nws_children-loop-left-init : goal.nws_children-loop-left-init
nws_children-loop-left-init g t c = record {
  loop = ReplyLoop-start c.args.scoring c.args.node.board _ _ _ refl (omega (arith, ints, c.requires.threshold.low))
      (NoneAbove-moves c.args.scoring c.args.node.board c.args.node.moves _ c.args.node.legal);
  fixed = refl;
  each = c.requires.children;
}

pub nws_children-next_child-child-requires-clause-legal : goal.nws_children-next_child-child-requires-clause-legal
nws_children-next_child-child-requires-clause-legal g t c = c.loop-left.invariant.loop.replies.untried

pub nws_children-nws_node-score-requires : goal.nws_children-nws_node-score-requires
nws_children-nws_node-score-requires g t c =
    let made = c.next_child-child.ensures.child in
    λ κs within. (
      omega (arith, c.decreases, fewer_after c.args.node.board c.node.result.board _ (c.node.ensures ∙ made.board) made.legal),
      (
        within,
        record { low = omega (arith, ints, c.requires.threshold.high); high = omega (arith, ints, c.requires.threshold.low) },
      ),
    )

pub nws_children-returns-then-score-alpha-clause-value : goal.nws_children-returns-then-score-alpha-clause-value
nws_children-returns-then-score-alpha-clause-value g t c =
    let made = c.next_child-child.ensures.child in
    BoundsAt-cut c.args.scoring c.args.node.board (key_square c.next_child-child.result.key) c.args.alpha _ made.legal
    (BoundsAt-reply c.args.scoring c.args.node.board c.node.result.board (key_square c.next_child-child.result.key) c.args.alpha _ _ c.nws_node-score.result (c.node.ensures ∙ made.board)
    (read-reply c.args.alpha c.requires.threshold) (read-negated c.nws_node-score.result c.nws_node-score.ensures.value.score) c.nws_node-score.ensures.value)
    (omega (arith, ints, c.if-score-alpha.true))

pub nws_children-loop-left-preserved : goal.nws_children-loop-left-preserved
nws_children-loop-left-preserved g t c =
    let child = c.next_child-child.result in
    let made = c.next_child-child.ensures.child in
    let r : ℤ = neg_ℤ c.nws_node-score.result in
    record {
      loop = ReplyLoop-keeps c.args.scoring c.args.node.board _ _ (key_square child.key) _ _ r c.loop-left.invariant.loop
          (Takes-same _ _ _ _ c.square.ensures c.next_child-child.ensures.member c.without-left.ensures.rest)
          (BoundsAt-reply c.args.scoring c.args.node.board c.node.result.board (key_square child.key) _ _ r c.nws_node-score.result (c.node.ensures ∙ made.board)
          (read-reply_read c.args.alpha c.requires.threshold) refl c.nws_node-score.ensures.value)
          (omega (arith, ints, c.if-score-best.false));
      fixed = c.nws_node-score.ensures.fixed ∙ c.loop-left.invariant.fixed;
      each = c.next_child-child.ensures.children;
    }

pub nws_children-loop-left-preserved-then-score-best : goal.nws_children-loop-left-preserved-then-score-best
nws_children-loop-left-preserved-then-score-best g t c =
    let child = c.next_child-child.result in
    let made = c.next_child-child.ensures.child in
    record {
      loop = ReplyLoop-takes c.args.scoring c.args.node.board _ _ (key_square child.key) _ _ _ c.loop-left.invariant.loop
          (Takes-same _ _ _ _ c.square.ensures c.next_child-child.ensures.member c.without-left.ensures.rest)
          (BoundsAt-reply c.args.scoring c.args.node.board c.node.result.board (key_square child.key) _ _ _ c.nws_node-score.result (c.node.ensures ∙ made.board)
          (read-reply_read c.args.alpha c.requires.threshold) (read-negated c.nws_node-score.result c.nws_node-score.ensures.value.score) c.nws_node-score.ensures.value)
          (omega (arith, ints, c.if-score-alpha.false))
          (omega (arith, ints, c.if-score-best.true));
      fixed = c.nws_node-score.ensures.fixed ∙ c.loop-left.invariant.fixed;
      each = c.next_child-child.ensures.children;
    }

pub nws_children-returns-clause-value : goal.nws_children-returns-clause-value
nws_children-returns-clause-value g t c =
    ReplyLoop-end c.args.scoring c.args.node.board c.args.alpha _ _ _ c.loop-left.invariant.loop (to_z-of_z w8 c.args.alpha c.ranges.alpha) (In-none _ c.loop-left-test.false) c.requires.some

pub nws_children-returns-then-score-alpha-clause-fixed : goal.nws_children-returns-then-score-alpha-clause-fixed
nws_children-returns-then-score-alpha-clause-fixed g t c = c.nws_node-score.ensures.fixed ∙ c.loop-left.invariant.fixed

pub nws_children-returns-clause-fixed : goal.nws_children-returns-clause-fixed
nws_children-returns-clause-fixed g t c = c.loop-left.invariant.fixed

pub nws_node-nws_kept-requires : goal.nws_node-nws_kept-requires
nws_node-nws_kept-requires g t c =
    λ κs within. (
      omega (arith, c.decreases),
      (
        within,
        (
          record { low = omega (arith, ints, c.requires.low); high = omega (arith, ints, c.requires.high) },
          can_move-from_moves c.args.node.board _ c.args.node.legal c.if-node-ne0.true,
        ),
      ),
    )

pub nws_node-nws_kept-requires-then-passed-ne0 : goal.nws_node-nws_kept-requires-then-passed-ne0
nws_node-nws_kept-requires-then-passed-ne0 g t c =
    let passed = c.of-passed.result in
    λ κs within. (
      omega (arith, c.decreases, same_after_pass c.args.node.board passed.board (c.of-passed.ensures ∙ c.pass.ensures)),
      (
        within,
        (
          record { low = omega (arith, ints, c.requires.high); high = omega (arith, ints, c.requires.low) },
          can_move-from_moves passed.board _ passed.legal c.if-passed-ne0.true,
        ),
      ),
    )

pub nws_node-returns-then-passed-ne0-clause-value : goal.nws_node-returns-then-passed-ne0-clause-value
nws_node-returns-then-passed-ne0-clause-value g t c =
    let passed = c.of-passed.result in
    BoundsAt-pass c.args.scoring c.args.node.board passed.board c.args.alpha _ _ c.nws_kept-then-passed-ne0.result
    (c.of-passed.ensures ∙ c.pass.ensures)
    (can_move-from_none c.args.node.board _ c.args.node.legal c.if-node-ne0.false)
    (can_move-from_moves passed.board _ passed.legal c.if-passed-ne0.true)
    (read-reply c.args.alpha c.requires)
    (read-negated c.nws_kept-then-passed-ne0.result c.nws_kept-then-passed-ne0.ensures.value.score)
    c.nws_kept-then-passed-ne0.ensures.value

pub nws_node-returns-clause-value : goal.nws_node-returns-clause-value
nws_node-returns-clause-value g t c =
    let passed = c.of-passed.result in
    BoundsAt-over c.args.scoring c.args.node.board passed.board c.args.alpha _
    (c.of-passed.ensures ∙ c.pass.ensures)
    (can_move-from_none c.args.node.board _ c.args.node.legal c.if-node-ne0.false)
    (can_move-from_none passed.board _ passed.legal c.if-passed-ne0.false)
    (omega (arith, ints, c.final_score.ensures))

pub nws_long-nws_children-requires : goal.nws_long-nws_children-requires
nws_long-nws_children-requires g t c κs within =
    let P = IsChild c.args.node.board in
    let made = c.add_children.ensures (subst (All P) (sym c.new-list.ensures) (All-nil P)) in
    let looked = c.look_at.ensures c.args.node.board (subst (All P) (sym c.as_mut_slice.ensures.value) made) in (
      omega (arith, c.decreases),
      (
        within,
        (
          record { low = omega (arith, ints, c.requires.threshold.low); high = omega (arith, ints, c.requires.threshold.high) },
          (c.requires.some, subst (All P) (sym c.as_mut_slice-2.ensures.value) (All-refill P _ _ _ made looked)),
        ),
      ),
    )

pub nws_by_keys-loop-left-init : goal.nws_by_keys-loop-left-init
nws_by_keys-loop-left-init g t c = record {
  loop = ReplyLoop-start c.args.scoring c.args.keyed.now.node.board _ _ _ refl (omega (arith, ints, c.requires.threshold.low))
      (NoneAbove-moves c.args.scoring c.args.keyed.now.node.board c.args.keyed.now.node.moves _ c.args.keyed.now.node.legal);
  fixed = refl;
}

pub nws_by_keys-child_by_key-child-requires-clause-legal : goal.nws_by_keys-child_by_key-child-requires-clause-legal
nws_by_keys-child_by_key-child-requires-clause-legal g t c = c.loop-left.invariant.loop.replies.untried

pub nws_by_keys-nws_node-score-requires : goal.nws_by_keys-nws_node-score-requires
nws_by_keys-nws_node-score-requires g t c =
    let made = c.child_by_key-child.ensures.child in
    λ κs within. (
      omega (arith, c.decreases, fewer_after c.args.keyed.now.node.board c.node.result.board _ (c.node.ensures ∙ made.board) made.legal),
      (
        within,
        record { low = omega (arith, ints, c.requires.threshold.high); high = omega (arith, ints, c.requires.threshold.low) },
      ),
    )

pub nws_by_keys-returns-then-score-alpha-clause-value : goal.nws_by_keys-returns-then-score-alpha-clause-value
nws_by_keys-returns-then-score-alpha-clause-value g t c =
    let made = c.child_by_key-child.ensures.child in
    BoundsAt-cut c.args.scoring c.args.keyed.now.node.board (key_square c.child_by_key-child.result.key) c.args.alpha _ made.legal
    (BoundsAt-reply c.args.scoring c.args.keyed.now.node.board c.node.result.board (key_square c.child_by_key-child.result.key) c.args.alpha _ _ c.nws_node-score.result (c.node.ensures ∙ made.board)
    (read-reply c.args.alpha c.requires.threshold) (read-negated c.nws_node-score.result c.nws_node-score.ensures.value.score) c.nws_node-score.ensures.value)
    (omega (arith, ints, c.if-score-alpha.true))

pub nws_by_keys-loop-left-preserved : goal.nws_by_keys-loop-left-preserved
nws_by_keys-loop-left-preserved g t c =
    let child = c.child_by_key-child.result in
    let made = c.child_by_key-child.ensures.child in
    let r : ℤ = neg_ℤ c.nws_node-score.result in
    record {
      loop = ReplyLoop-keeps c.args.scoring c.args.keyed.now.node.board _ _ (key_square child.key) _ _ r c.loop-left.invariant.loop
          (Takes-same _ _ _ _ c.square.ensures c.child_by_key-child.ensures.member c.without-left.ensures.rest)
          (BoundsAt-reply c.args.scoring c.args.keyed.now.node.board c.node.result.board (key_square child.key) _ _ r c.nws_node-score.result (c.node.ensures ∙ made.board)
          (read-reply_read c.args.alpha c.requires.threshold) refl c.nws_node-score.ensures.value)
          (omega (arith, ints, c.if-score-best.false));
      fixed = c.nws_node-score.ensures.fixed ∙ c.loop-left.invariant.fixed;
    }

pub nws_by_keys-loop-left-preserved-then-score-best : goal.nws_by_keys-loop-left-preserved-then-score-best
nws_by_keys-loop-left-preserved-then-score-best g t c =
    let child = c.child_by_key-child.result in
    let made = c.child_by_key-child.ensures.child in
    record {
      loop = ReplyLoop-takes c.args.scoring c.args.keyed.now.node.board _ _ (key_square child.key) _ _ _ c.loop-left.invariant.loop
          (Takes-same _ _ _ _ c.square.ensures c.child_by_key-child.ensures.member c.without-left.ensures.rest)
          (BoundsAt-reply c.args.scoring c.args.keyed.now.node.board c.node.result.board (key_square child.key) _ _ _ c.nws_node-score.result (c.node.ensures ∙ made.board)
          (read-reply_read c.args.alpha c.requires.threshold) (read-negated c.nws_node-score.result c.nws_node-score.ensures.value.score) c.nws_node-score.ensures.value)
          (omega (arith, ints, c.if-score-alpha.false))
          (omega (arith, ints, c.if-score-best.true));
      fixed = c.nws_node-score.ensures.fixed ∙ c.loop-left.invariant.fixed;
    }

pub nws_by_keys-returns-clause-value : goal.nws_by_keys-returns-clause-value
nws_by_keys-returns-clause-value g t c =
    ReplyLoop-end c.args.scoring c.args.keyed.now.node.board c.args.alpha _ _ _ c.loop-left.invariant.loop (to_z-of_z w8 c.args.alpha c.ranges.alpha) (In-none _ c.loop-left-test.false) c.requires.some

pub nws_by_keys-returns-then-score-alpha-clause-fixed : goal.nws_by_keys-returns-then-score-alpha-clause-fixed
nws_by_keys-returns-then-score-alpha-clause-fixed g t c = c.nws_node-score.ensures.fixed ∙ c.loop-left.invariant.fixed

pub nws_by_keys-returns-clause-fixed : goal.nws_by_keys-returns-clause-fixed
nws_by_keys-returns-clause-fixed g t c = c.loop-left.invariant.fixed
