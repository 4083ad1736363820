use Rattle.std.proofs.Common.{refl, ◌∙◌, arith}
use Rattle.std.specs.Prelude.{ℤ, neg_ℤ}
use Rattle.std.proofs.lemmas.Int.{ints}
use Rattle.oth_search.proofs.BoundsLemmas.SquareSets.{Takes-without, In-none}
use Rattle.oth_search.proofs.BoundsLemmas.Replies.{BoundsAt-reply, BoundsAt-cut, BoundsAt-pass, BoundsAt-over, NoneAbove-moves, ReplyLoop-start, ReplyLoop-keeps}
use Rattle.oth_search.proofs.BoundsLemmas.Replies.{ReplyLoop-takes, ReplyLoop-end, can_move-from_moves, can_move-from_none, fewer_after, same_after_pass}
use Rattle.oth_rules.specs.Position.{is_empty}
use Rattle.oth_rules.proofs.Bits.{word_of-lt}
use Rattle.oth_rules.proofs.SearchLaws.{legal-empty, empty-word}
use Rattle.oth_search.proofs.NwsLemmas.Lasts.{empties-after, empties-pass}
use Rattle.oth_search.proofs.nws.shallow.+nws.Goals as goal

pub nws_at-nws_moves-requires : goal.nws_at-nws_moves-requires
nws_at-nws_moves-requires t c = (
  omega (arith, c.decreases),
  (
    record { low = omega (arith, ints, c.requires.threshold.low); high = omega (arith, ints, c.requires.threshold.high) },
    (
      can_move-from_moves c.args.board _ c.moves-moves.ensures c.if-moves-ne0.true,
      (c.moves-moves.ensures, c.requires.empties),
    ),
  ),
)

pub nws_at-nws_moves-requires-then-replies-ne0 : goal.nws_at-nws_moves-requires-then-replies-ne0
nws_at-nws_moves-requires-then-replies-ne0 t c = (
  omega (arith, c.decreases, same_after_pass c.args.board c.pass-passed.result c.pass-passed.ensures),
  (
    record { low = omega (arith, ints, c.requires.threshold.high); high = omega (arith, ints, c.requires.threshold.low) },
    (
      can_move-from_moves c.pass-passed.result _ c.moves-replies.ensures c.if-replies-ne0.true,
      (c.moves-replies.ensures, empties-pass c.args.board c.pass-passed.result _ c.pass-passed.ensures c.requires.empties),
    ),
  ),
)

pub nws_at-returns-then-replies-ne0 : goal.nws_at-returns-then-replies-ne0
nws_at-returns-then-replies-ne0 t c =
    BoundsAt-pass c.args.scoring c.args.board c.pass-passed.result c.args.alpha _ _ c.nws_moves-then-replies-ne0.result
    c.pass-passed.ensures
    (can_move-from_none c.args.board _ c.moves-moves.ensures c.if-moves-ne0.false)
    (can_move-from_moves c.pass-passed.result _ c.moves-replies.ensures c.if-replies-ne0.true)
    (omega (arith, ints))
    (omega (arith, ints))
    c.nws_moves-then-replies-ne0.ensures

pub nws_at-returns : goal.nws_at-returns
nws_at-returns t c =
    BoundsAt-over c.args.scoring c.args.board c.pass-passed.result c.args.alpha _
    c.pass-passed.ensures
    (can_move-from_none c.args.board _ c.moves-moves.ensures c.if-moves-ne0.false)
    (can_move-from_none c.pass-passed.result _ c.moves-replies.ensures c.if-replies-ne0.false)
    (omega (arith, ints, rw c.board.ensures at c.final_score.ensures))

pub nws_moves-loop-rest-init : goal.nws_moves-loop-rest-init
nws_moves-loop-rest-init t c =
    ReplyLoop-start c.args.scoring c.args.board _ _ _ refl (omega (arith, ints, c.requires.threshold.low)) (NoneAbove-moves c.args.scoring c.args.board c.args.moves _ c.requires.legal)

pub nws_moves-without-requires : goal.nws_moves-without-requires
nws_moves-without-requires t c =
    let legal = c.loop-rest.invariant.replies.untried c.preferred-square.result c.preferred-square.ensures in
    record { on_board = legal.on_board; member = empty-word c.args.board _ c.requires.empties c.preferred-square.result legal.on_board ∙ legal-empty c.args.board c.preferred-square.result legal }

pub nws_moves-nws_at-score-requires : goal.nws_moves-nws_at-score-requires
nws_moves-nws_at-score-requires t c =
    let legal = c.loop-rest.invariant.replies.untried c.preferred-square.result c.preferred-square.ensures in (
      omega (arith, c.decreases, fewer_after c.args.board c.play_legal-child.result c.preferred-square.result c.play_legal-child.ensures legal),
      (
        record { low = omega (arith, ints, c.requires.threshold.high); high = omega (arith, ints, c.requires.threshold.low) },
        empties-after c.args.board c.play_legal-child.result c.preferred-square.result _ _ c.play_legal-child.ensures c.requires.empties c.without.ensures.rest
            (omega (arith, c.without.ensures.fewer, c.requires.empties, word_of-lt (is_empty c.args.board))),
      ),
    )

pub nws_moves-returns-then-score-alpha : goal.nws_moves-returns-then-score-alpha
nws_moves-returns-then-score-alpha t c =
    BoundsAt-cut c.args.scoring c.args.board c.preferred-square.result c.args.alpha _
    (c.loop-rest.invariant.replies.untried c.preferred-square.result c.preferred-square.ensures)
    (BoundsAt-reply c.args.scoring c.args.board c.play_legal-child.result c.preferred-square.result c.args.alpha _ _ c.nws_at-score.result c.play_legal-child.ensures
    (omega (arith, ints)) (omega (arith, ints)) c.nws_at-score.ensures)
    (omega (arith, ints, c.if-score-alpha.true))

pub nws_moves-loop-rest-preserved : goal.nws_moves-loop-rest-preserved
nws_moves-loop-rest-preserved t c =
    let r : ℤ = neg_ℤ c.nws_at-score.result in
    ReplyLoop-keeps c.args.scoring c.args.board _ _ c.preferred-square.result _ _ r c.loop-rest.invariant
    (Takes-without _ _ _ c.preferred-square.ensures c.without-rest.ensures.rest)
    (BoundsAt-reply c.args.scoring c.args.board c.play_legal-child.result c.preferred-square.result _ _ r c.nws_at-score.result c.play_legal-child.ensures (omega (arith, ints))
    refl c.nws_at-score.ensures)
    (omega (arith, ints, c.if-score-best.false))

pub nws_moves-loop-rest-preserved-then-score-best : goal.nws_moves-loop-rest-preserved-then-score-best
nws_moves-loop-rest-preserved-then-score-best t c =
    ReplyLoop-takes c.args.scoring c.args.board _ _ c.preferred-square.result _ _ _ c.loop-rest.invariant
    (Takes-without _ _ _ c.preferred-square.ensures c.without-rest.ensures.rest)
    (BoundsAt-reply c.args.scoring c.args.board c.play_legal-child.result c.preferred-square.result _ _ _ c.nws_at-score.result c.play_legal-child.ensures (omega (arith, ints))
    (omega (arith, ints)) c.nws_at-score.ensures)
    (omega (arith, ints, c.if-score-alpha.false))
    (omega (arith, ints, c.if-score-best.true))

pub nws_moves-returns : goal.nws_moves-returns
nws_moves-returns t c =
    ReplyLoop-end c.args.scoring c.args.board c.args.alpha _ _ _ c.loop-rest.invariant (omega (arith, ints)) (In-none _ c.loop-rest-test.false) c.requires.some
