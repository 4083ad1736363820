use Rattle.std.proofs.Common.{ℕ, refl, ◌∙◌, inl, inr, arith, rules, to_z, w8, sym}
use Rattle.std.specs.Prelude.{neg_ℤ}
use Rattle.std.proofs.lemmas.Int.{ints, to_z-of_z}
use Rattle.oth_search.proofs.BoundsLemmas.Bytes.{read-negated, read-negated_alpha, read-negated_beta}
use Rattle.oth_search.proofs.BoundsLemmas.SquareSets.{Takes-next, FromPlace-end}
use Rattle.oth_search.proofs.NwsLemmas.Lasts.{greater-of}
use Rattle.oth_search.proofs.PvsLemmas.Withins as w
use Rattle.oth_search.proofs.BoundsLemmas.Replies.{BoundsAt-negated, NoneAbove-list, can_move-from_moves, can_move-from_none, fewer_after, same_after_pass}
use Rattle.oth_search.proofs.pvs.+window.Goals as goal

pub search_moves-loop-square-init : goal.search_moves-loop-square-init
search_moves-loop-square-init g t c = (
  w.WithinLoop-start c.args.scoring c.args.board _ _ _ _ refl (w.IsInner-same c.args.alpha c.args.beta _ _ (to_z-of_z w8 c.args.alpha c.ranges.alpha)
      (to_z-of_z w8 c.args.beta c.ranges.beta) c.requires.window)
      (NoneAbove-list c.args.scoring c.args.board c.order-squares.result.items _ _ c.as_slice-square-items.ensures.value c.order-squares.ensures),
  refl,
)

pub search_moves-play_legal-requires : goal.search_moves-play_legal-requires
search_moves-play_legal-requires g t c =
    c.loop-square.invariant.0.replies.untried _ (c.loop-square.square-index, omega arith, omega (arith, c.loop-square-test.true), search rules)

pub search_moves-search_child-score-requires : goal.search_moves-search_child-score-requires
search_moves-search_child-score-requires g t c =
    let s : ℕ = c.square-item.result in
    let legal = c.loop-square.invariant.0.replies.untried s (c.loop-square.square-index, omega arith, omega (arith, c.loop-square-test.true), search rules) in
    let i = c.loop-square.invariant.0 in
    let n = w.IsInner-next c.args.alpha c.args.beta (to_z w8 c.loop-square.best-bits) c.greater-low.result c.requires.window (let below = i.in_reach in omega (arith, ints, below))
    (greater-of c.args.alpha (to_z w8 c.loop-square.best-bits) c.greater-low.result _ _ (to_z-of_z w8 c.args.alpha c.ranges.alpha)
    (omega (arith, ints, c.loop-square.best-is)) c.greater-low.ensures.left
    c.greater-low.ensures.right c.greater-low.ensures.one)
    in
    λ κs within. (
      omega (arith, c.decreases, fewer_after c.args.board c.play_legal.result s c.play_legal.ensures legal),
      (within, w.IsInner-same c.greater-low.result c.args.beta _ _ (to_z-of_z w8 c.greater-low.result (record { sfits = c.greater-low.type_inv })) (to_z-of_z w8 c.args.beta c.ranges.beta) n),
    )

pub search_moves-returns-then-score-beta-clause-value : goal.search_moves-returns-then-score-beta-clause-value
search_moves-returns-then-score-beta-clause-value g t c =
    let s : ℕ = c.square-item.result in
    let r = c.search_child-score.result in
    let low = c.greater-low.result in
    w.WithinAt-same _ _ _ _ _ _ _ r refl (sym (to_z-of_z w8 c.args.alpha c.ranges.alpha)) (sym (to_z-of_z w8 c.args.beta c.ranges.beta))
    (to_z-of_z w8 c.search_child-score.result (record { sfits = c.search_child-score.type_inv }))
    (w.WithinAt-cut c.args.scoring c.args.board _ _ _ s (to_z w8 c.loop-square.best-bits) low r c.loop-square.invariant.0
    (c.loop-square.square-index, omega arith, omega (arith, c.loop-square-test.true), search rules)
    (w.WithinAt-reply c.args.scoring c.args.board c.play_legal.result s _ _ _ _ r c.play_legal.ensures
    (sym (to_z-of_z w8 c.greater-low.result (record { sfits = c.greater-low.type_inv }))) refl c.search_child-score.ensures.value)
    (greater-of _ (to_z w8 c.loop-square.best-bits) low _ _ refl (omega (arith, ints, c.loop-square.best-is)) c.greater-low.ensures.left c.greater-low.ensures.right
    c.greater-low.ensures.one)
    (w.IsInner-same c.args.alpha c.args.beta _ _ (to_z-of_z w8 c.args.alpha c.ranges.alpha) (to_z-of_z w8 c.args.beta c.ranges.beta) c.requires.window)
    (omega (arith, ints, c.if-score-beta.true)))

pub search_moves-loop-square-preserved : goal.search_moves-loop-square-preserved
search_moves-loop-square-preserved g t c =
    let xs = c.as_slice-square-items.result.now in
    let i = c.loop-square.square-index in
    let s : ℕ = c.square-item.result in
    let r = c.search_child-score.result in
    let low = c.greater-low.result in (
      w.WithinLoop-same c.args.scoring c.args.board _ _ _ _ c.greater-best.result (to_z-of_z w8 c.greater-best.result (record { sfits = c.greater-best.type_inv }))
          (w.WithinLoop-next c.args.scoring c.args.board _ _ _ s _ (to_z w8 c.loop-square.best-bits) low r c.greater-best.result c.loop-square.invariant.0
          (Takes-next xs i s (omega (arith, c.loop-square-test.true)) (search rules))
          (w.WithinAt-reply c.args.scoring c.args.board c.play_legal.result s _ _ _ _ r c.play_legal.ensures
          (sym (to_z-of_z w8 c.greater-low.result (record { sfits = c.greater-low.type_inv }))) refl c.search_child-score.ensures.value)
          (greater-of _ (to_z w8 c.loop-square.best-bits) low _ _ refl (omega (arith, ints, c.loop-square.best-is)) c.greater-low.ensures.left
          c.greater-low.ensures.right c.greater-low.ensures.one)
          (omega (arith, ints, c.if-score-beta.false))
          (greater-of (to_z w8 c.loop-square.best-bits) r c.greater-best.result _ _ (omega (arith, ints, c.loop-square.best-is))
          (to_z-of_z w8 c.search_child-score.result (record { sfits = c.search_child-score.type_inv })) c.greater-best.ensures.left
          c.greater-best.ensures.right c.greater-best.ensures.one)),
      c.search_child-score.ensures.fixed ∙ c.loop-square.invariant.1,
    )

pub search_moves-returns-clause-value : goal.search_moves-returns-clause-value
search_moves-returns-clause-value g t c =
    w.WithinAt-same _ _ _ _ _ _ _ (to_z w8 c.loop-square.best-bits) refl (sym (to_z-of_z w8 c.args.alpha c.ranges.alpha)) (sym (to_z-of_z w8 c.args.beta c.ranges.beta))
    (omega (arith, ints, c.loop-square.best-is))
    (w.WithinAt-end c.args.scoring c.args.board _ _ _ (to_z w8 c.loop-square.best-bits) c.loop-square.invariant.0
    (λ s h. FromPlace-end _ _ s (omega (arith, c.loop-square-test.false)) h) c.requires.some)

pub search_child-returns-then-found-alpha-clause-value : goal.search_child-returns-then-found-alpha-clause-value
search_child-returns-then-found-alpha-clause-value g t c =
    w.WithinAt-nws _ c.args.alpha c.args.beta _
    (BoundsAt-negated _ c.args.alpha _ _ c.nws_with-found.result (w.reply_threshold c.args.alpha c.args.beta c.requires)
    (read-negated c.nws_with-found.result c.nws_with-found.ensures.value.score) c.nws_with-found.ensures.value)
    (inl (omega (arith, ints, c.if-found-alpha.true))) (let o = c.requires.ordered in omega (arith, ints, o))

pub search_child-returns-then-found-beta-clause-value : goal.search_child-returns-then-found-beta-clause-value
search_child-returns-then-found-beta-clause-value g t c =
    w.WithinAt-nws _ c.args.alpha c.args.beta _
    (BoundsAt-negated _ c.args.alpha _ _ c.nws_with-found.result (w.reply_threshold c.args.alpha c.args.beta c.requires)
    (read-negated c.nws_with-found.result c.nws_with-found.ensures.value.score) c.nws_with-found.ensures.value)
    (inr (omega (arith, ints, c.if-found-beta.true))) (let o = c.requires.ordered in omega (arith, ints, o))

pub search_child-search_window-requires : goal.search_child-search_window-requires
search_child-search_window-requires g t c =
    λ κs within. (
      omega (arith, c.decreases),
      (within, w.IsInner-negated c.args.alpha c.args.beta _ _ (read-negated_beta c.args.alpha c.args.beta c.requires) (read-negated_alpha c.args.alpha c.args.beta c.requires) c.requires),
    )

pub search_child-returns-then-beta-alpha-clause-value : goal.search_child-returns-then-beta-alpha-clause-value
search_child-returns-then-beta-alpha-clause-value g t c =
    w.WithinAt-negated _ c.args.alpha c.args.beta _ _ _ c.search_window.result (read-negated_beta c.args.alpha c.args.beta c.requires) (read-negated_alpha c.args.alpha c.args.beta c.requires)
    (read-negated c.search_window.result c.search_window.ensures.value.score) c.search_window.ensures.value

pub search_child-search_window-requires-2 : goal.search_child-search_window-requires-2
search_child-search_window-requires-2 g t c =
    λ κs within. (
      omega (arith, c.decreases),
      (
        within,
        (let s = c.nws_with-found.ensures.value.score in
            w.IsInner-negated (neg_ℤ c.nws_with-found.result) c.args.beta _ _ (read-negated_beta c.args.alpha c.args.beta c.requires) (omega (arith, ints, s.low, s.high))
            (record { low = omega (arith, ints, s.high); ordered = omega (arith, ints, s.low, s.high, c.if-found-beta.false); high = c.requires.high })),
      ),
    )

pub search_child-returns-clause-value : goal.search_child-returns-clause-value
search_child-returns-clause-value g t c =
    let s = c.nws_with-found.ensures.value.score in
    let found = neg_ℤ c.nws_with-found.result in
    let n = c.search_window-2.ensures.value.score in
    w.WithinAt-same _ _ _ _ _ _ _ c.greater.result refl refl refl (to_z-of_z w8 c.greater.result (record { sfits = c.greater.type_inv }))
    (w.WithinAt-above _ c.args.alpha c.args.beta found found (neg_ℤ c.search_window-2.result) c.greater.result
    (BoundsAt-negated _ c.args.alpha _ found c.nws_with-found.result (w.reply_threshold c.args.alpha c.args.beta c.requires) refl c.nws_with-found.ensures.value)
    (omega (arith, ints, s.low, s.high, c.if-found-alpha.false))
    refl
    (w.WithinAt-negated _ found c.args.beta _ _ _ c.search_window-2.result (read-negated_beta c.args.alpha c.args.beta c.requires)
    (omega (arith, ints, s.low, s.high)) refl c.search_window-2.ensures.value)
    (greater-of found (neg_ℤ c.search_window-2.result) c.greater.result _ _ (omega (arith, ints, s.low, s.high)) (omega (arith, ints, n.low, n.high)) c.greater.ensures.left
    c.greater.ensures.right c.greater.ensures.one))

pub search_window-search_moves-requires : goal.search_window-search_moves-requires
search_window-search_moves-requires g t c =
    λ κs within. (
      omega (arith, c.decreases),
      (
        within,
        (
          w.IsInner-same c.args.alpha c.args.beta _ _ (to_z-of_z w8 c.args.alpha c.ranges.alpha) (to_z-of_z w8 c.args.beta c.ranges.beta) c.requires,
          can_move-from_moves c.args.board _ c.moves.ensures c.if-moves-ne0.true,
        ),
      ),
    )

pub search_window-search_moves-requires-then-moves-ne0-2 : goal.search_window-search_moves-requires-then-moves-ne0-2
search_window-search_moves-requires-then-moves-ne0-2 g t c =
    λ κs within. (
      omega (arith, c.decreases, same_after_pass c.args.board c.pass-passed.result c.pass-passed.ensures),
      (
        within,
        (
          w.IsInner-negated c.args.alpha c.args.beta _ _ (read-negated_beta c.args.alpha c.args.beta c.requires) (read-negated_alpha c.args.alpha c.args.beta c.requires) c.requires,
          can_move-from_moves c.pass-passed.result _ c.moves-2.ensures c.if-moves-ne0-2.true,
        ),
      ),
    )

pub search_window-returns-then-moves-ne0-2-clause-value : goal.search_window-returns-then-moves-ne0-2-clause-value
search_window-returns-then-moves-ne0-2-clause-value g t c =
    w.WithinAt-pass c.args.scoring c.args.board c.pass-passed.result c.args.alpha c.args.beta _ _ _ c.search_moves-then-moves-ne0-2.result
    c.pass-passed.ensures
    (can_move-from_none c.args.board _ c.moves.ensures c.if-moves-ne0.false)
    (can_move-from_moves c.pass-passed.result _ c.moves-2.ensures c.if-moves-ne0-2.true)
    (read-negated_beta c.args.alpha c.args.beta c.requires) (read-negated_alpha c.args.alpha c.args.beta c.requires)
    (read-negated c.search_moves-then-moves-ne0-2.result c.search_moves-then-moves-ne0-2.ensures.value.score)
    c.search_moves-then-moves-ne0-2.ensures.value

pub search_window-returns-clause-value : goal.search_window-returns-clause-value
search_window-returns-clause-value g t c =
    w.WithinAt-over c.args.scoring c.args.board c.pass-passed.result c.args.alpha c.args.beta _
    c.pass-passed.ensures
    (can_move-from_none c.args.board _ c.moves.ensures c.if-moves-ne0.false)
    (can_move-from_none c.pass-passed.result _ c.moves-2.ensures c.if-moves-ne0-2.false)
    (omega (arith, ints, c.final_score.ensures))

pub search_moves-returns-then-score-beta-clause-fixed : goal.search_moves-returns-then-score-beta-clause-fixed
search_moves-returns-then-score-beta-clause-fixed g t c = c.search_child-score.ensures.fixed ∙ c.loop-square.invariant.1

pub search_moves-returns-clause-fixed : goal.search_moves-returns-clause-fixed
search_moves-returns-clause-fixed g t c = c.loop-square.invariant.1
