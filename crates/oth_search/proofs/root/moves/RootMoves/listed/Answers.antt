use Rattle.std.proofs.Common.{◌∙◌, arith, rules}
use Rattle.oth_search.proofs.BoundsLemmas.Replies.{FromPlace-legal}
use Rattle.oth_search.proofs.RootLemmas.MoveLists.{Listed-more}
use Rattle.oth_search.proofs.root.moves.RootMoves.listed.Goals as goal

pub play_legal-board-requires : goal.play_legal-board-requires
play_legal-board-requires c =
    FromPlace-legal c.args.root.now.board _ _ c.as_slice-square-items.ensures.value c.requires _
    (c.loop-square.square-index, omega arith, omega (arith, c.loop-square-test.true), search rules)

pub loop-square-preserved : goal.loop-square-preserved
loop-square-preserved c =
    let legal = FromPlace-legal c.args.root.now.board _ _ c.as_slice-square-items.ensures.value c.requires c.square-item.result
    (c.loop-square.square-index, omega arith, omega (arith, c.loop-square-test.true), search rules) in
    Listed-more _ c.as_slice-square-items.result.now c.loop-square.square-index c.loop-square.list.items _ _ c.loop-square.invariant (omega (arith, c.loop-square-test.true)) (search rules)
    (record { legal = legal; board = c.bounds_among.ensures.board ∙ c.play_legal-board.ensures; scoring = c.bounds_among.ensures.scoring })
    c.push.ensures.items
