use Rattle.oth_rules.proofs.StableWords.{more_stable}
use Rattle.oth_rules.proofs.stable.Reach.more_stable.Goals as goal

pub returns : goal.returns
returns c =
    let reach = c.args.self.now in
    more_stable c.args.board.now c.args.stable reach.row reach.falling reach.column reach.rising c.opp.result
    c.backed.result c.backed-2.result c.backed-3.result c.backed-4.result c.opp.ensures.board c.opp.ensures.value
    c.requires.stable c.requires.reach c.backed.ensures c.backed-2.ensures c.backed-3.ensures c.backed-4.ensures
