use Rattle.std.proofs.Common.{refl, ◌∙◌, arith}
use Rattle.std.proofs.lemmas.Int.{ints}
use Rattle.oth_search.proofs.BoundsLemmas.Enclosing.{BoundsAt-same}
use Rattle.oth_search.proofs.BoundsLemmas.Replies.{BoundsAt-pass, BoundsAt-over, can_move-from_moves, can_move-from_none}
use Rattle.oth_search.proofs.nws.heard.nws_heard.Goals as goal

pub nws_heard_moves-requires-clause-some : goal.nws_heard_moves-requires-clause-some
nws_heard_moves-requires-clause-some g c = can_move-from_moves c.of-node.result.board _ c.of-node.result.legal c.if-node-ne0.true

pub nws_heard_moves-requires-then-passed-ne0-clause-some : goal.nws_heard_moves-requires-then-passed-ne0-clause-some
nws_heard_moves-requires-then-passed-ne0-clause-some g c = can_move-from_moves c.of-passed.result.board _ c.of-passed.result.legal c.if-passed-ne0.true

pub returns-then-node-ne0-clause-value : goal.returns-then-node-ne0-clause-value
returns-then-node-ne0-clause-value g c =
    BoundsAt-same _ _ _ _ _ _ refl (omega (arith, ints)) (omega (arith, ints)) (rw (c.of-node.ensures) at c.nws_heard_moves.ensures.value)

pub returns-then-passed-ne0-clause-value : goal.returns-then-passed-ne0-clause-value
returns-then-passed-ne0-clause-value g c =
    let board = c.args.known.now.board in
    let passed = c.of-passed.result in
    BoundsAt-pass c.args.known.now.scoring board passed.board c.args.alpha _ _ c.nws_heard_moves-then-passed-ne0.result
    (c.of-passed.ensures ∙ c.pass.ensures)
    (can_move-from_none board _ (rw (c.of-node.ensures) at c.of-node.result.legal) c.if-node-ne0.false)
    (can_move-from_moves passed.board _ passed.legal c.if-passed-ne0.true)
    (omega (arith, ints))
    (omega (arith, ints))
    c.nws_heard_moves-then-passed-ne0.ensures.value

pub returns-clause-value : goal.returns-clause-value
returns-clause-value g c =
    let board = c.args.known.now.board in
    let passed = c.of-passed.result in
    BoundsAt-over c.args.known.now.scoring board passed.board c.args.alpha _
    (c.of-passed.ensures ∙ c.pass.ensures)
    (can_move-from_none board _ (rw (c.of-node.ensures) at c.of-node.result.legal) c.if-node-ne0.false)
    (can_move-from_none passed.board _ passed.legal c.if-passed-ne0.false)
    (omega (arith, ints, c.final_score.ensures))
