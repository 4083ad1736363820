use Rattle.oth_pieces.proofs.Dealings.{takes_first, takes_last}
use Rattle.oth_pieces.proofs.Handings.{popped}
use Rattle.oth_pieces.proofs.tasks.state.Tasks.find.Goals as goal

pub pop_as-own-requires-clause-fifo : goal.pop_as-own-requires-clause-fifo
pop_as-own-requires-clause-fifo c = λ _. takes_first _ _ c.requires.owner_knows.0

pub pop_as-own-requires-clause-lifo : goal.pop_as-own-requires-clause-lifo
pop_as-own-requires-clause-lifo c = λ _. takes_last _ _ c.requires.owner_knows.0

pub returns-then-is_some : goal.returns-then-is_some
returns-then-is_some c = popped _ c.args.self.now c.args.hand.now c.pop_as-own.new.self c.pop_as-own.result c.requires c.pop_as-own.ensures.same.0.0 c.pop_as-own.ensures.rule
