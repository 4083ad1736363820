use Rattle.std.proofs.Common.{ℕ, map, refl, ◌∙◌, arith, rules}
use Rattle.std.proofs.lemmas.Int.{ints}
use Rattle.std.proofs.lemmas.List.{length-map}
use Rattle.oth_search.specs.Root.Moves.{square_of}
use Rattle.oth_search.proofs.BoundsLemmas.Bytes.{read-negated, IsScore-lower}
use Rattle.oth_search.proofs.BoundsLemmas.Enclosing.{same_scoring}
use Rattle.oth_search.proofs.BoundsLemmas.SquareSets.{FromPlace-end, FromPlace}
use Rattle.oth_search.proofs.BoundsLemmas.Replies.{FromPlace-legal, legal-FromPlace}
use Rattle.oth_search.proofs.RootLemmas.MoveLists.{Takes-move, root_move-at, of_root}
use Rattle.oth_search.proofs.RootLemmas.Roots.{RootLoop-start, RootLoop-worse, RootLoop-reached, RootLoop-score, RootLoop-best, gives_less, kind-move}
use Rattle.oth_search.proofs.root.best_moves.best_moves.Goals as goal

pub loop-root_move-init : goal.loop-root_move-init
loop-root_move-init g c =
    let root = c.backed_up-root.result in
    let moves = of_root _ root.board root.scoring _ c.backed_up-root.ensures.board c.backed_up-root.ensures.scoring c.as_slice-root_move-items.ensures.moves in (
      RootLoop-start root.scoring root.board _ _ _ _ _ root.interval.is_interval root.encloses (omega (arith, ints)) refl
          (FromPlace-legal root.board _ _ refl moves.squares)
          (legal-FromPlace root.board _ _ refl moves.squares),
      refl,
    )

pub loop-root_move-preserved-then-reply-best : goal.loop-root_move-preserved-then-reply-best
loop-root_move-preserved-then-reply-best g c =
    let root = c.backed_up-root.result in
    let moves = of_root _ root.board root.scoring _ c.backed_up-root.ensures.board c.backed_up-root.ensures.scoring c.as_slice-root_move-items.ensures.moves in
    let ms = c.as_slice-root_move-items.result.now in
    let i = c.loop-root_move.root_move-index in
    let m = c.root_move-item.result in
    let r = c.reply_below-reply.result in
    let one = root_move-at _ ms i m (omega (arith, c.loop-root_move-test.true)) (search rules) moves in (
      RootLoop-worse root.scoring root.board _ m.square _ _ _ c.loop-root_move.invariant.0
          (Takes-move ms i m (omega (arith, c.loop-root_move-test.true)) (search rules))
          (gives_less root.scoring root.board m.child.board m.square _ r.lower r.upper one.board
          (same_scoring root.scoring m.child.scoring m.child.board _ _ one.scoring c.reply_below-reply.ensures.encloses)
          (omega (arith, ints, c.if-reply-best.true))),
      c.reply_below-reply.ensures.fixed ∙ c.loop-root_move.invariant.1,
    )

pub loop-root_move-preserved : goal.loop-root_move-preserved
loop-root_move-preserved g c =
    let root = c.backed_up-root.result in
    let moves = of_root _ root.board root.scoring _ c.backed_up-root.ensures.board c.backed_up-root.ensures.scoring c.as_slice-root_move-items.ensures.moves in
    let ms = c.as_slice-root_move-items.result.now in
    let i = c.loop-root_move.root_move-index in
    let m = c.root_move-item.result in
    let r = c.reply_below-reply.result in
    let one = root_move-at _ ms i m (omega (arith, c.loop-root_move-test.true)) (search rules) moves in
    let found = c.with-best.ensures in
    let range = c.loop-root_move.invariant.0.range in (
      RootLoop-reached root.scoring root.board m.child.board _ m.square _ c.loop-root_move.best.score _ r.lower r.upper _ _ _ _ c.loop-root_move.invariant.0
          (Takes-move ms i m (omega (arith, c.loop-root_move-test.true)) (search rules))
          one.board
          (same_scoring root.scoring m.child.scoring m.child.board _ _ one.scoring c.reply_below-reply.ensures.encloses)
          r.is_interval c.reply_below-reply.ensures.decides
          refl (omega (arith, ints, range.low, range.high))
          (omega (arith, ints, range.low, range.high, c.if-reply-best.false))
          (found.score ∙ read-negated r.lower (IsScore-lower r.lower r.upper r.is_interval))
          (λ same. found.equal (omega (arith, ints, range.low, range.high, found.score, same)))
          (λ more. found.better (omega (arith, ints, range.low, range.high, found.score, more))),
      c.reply_below-reply.ensures.fixed ∙ c.loop-root_move.invariant.1,
    )

pub of-requires-clause-score : goal.of-requires-clause-score
of-requires-clause-score g c =
    let root = c.backed_up-root.result in
    let ms = c.as_slice-root_move-items.result.now in
    let i = c.loop-root_move.root_move-index in
    let none = λ (s : ℕ) (h : FromPlace (map square_of ms) i s). FromPlace-end (map square_of ms) i s (omega (arith, c.loop-root_move-test.false, length-map ms square_of)) h in
    omega (arith, ints, RootLoop-score root.scoring root.board _ _ _ c.loop-root_move.invariant.0 none (rw (← c.backed_up-root.ensures.board) at c.requires))

pub of-requires-clause-best : goal.of-requires-clause-best
of-requires-clause-best g c =
    let root = c.backed_up-root.result in
    let ms = c.as_slice-root_move-items.result.now in
    let i = c.loop-root_move.root_move-index in
    let l = c.loop-root_move.invariant.0 in
    let none = λ (s : ℕ) (h : FromPlace (map square_of ms) i s). FromPlace-end (map square_of ms) i s (omega (arith, c.loop-root_move-test.false, length-map ms square_of)) h in
    RootLoop-best root.scoring root.board _ _ _ c.type_inv.best.1.0.1 l none (RootLoop-score root.scoring root.board _ _ _ l none (rw (← c.backed_up-root.ensures.board) at c.requires))

pub of-requires-clause-kind : goal.of-requires-clause-kind
of-requires-clause-kind g c = kind-move c.backed_up-root.result.board (rw (← c.backed_up-root.ensures.board) at c.requires)
