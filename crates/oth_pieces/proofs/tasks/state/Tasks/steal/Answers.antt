use Rattle.oth_pieces.proofs.Handings.{pass_at, steals}
use Rattle.oth_pieces.proofs.tasks.state.Tasks.steal.Goals as goal

pub returns : goal.returns
returns c =
    steals _ _ _ _ _ _ c.requires.hand c.requires.deque c.index_mut.ensures.value
    (pass_at c.args.self.now c.args.deque c.index.result.now c.steal_from.new.pass c.requires.deque c.index.ensures c.steal_from.ensures.pass) c.steal_from.ensures.took
