use Rattle.std.proofs.Common.{ap, ◌∙◌, rules}
use Rattle.oth_pieces.proofs.Dealings.{takes_first}
use Rattle.oth_pieces.proofs.tasks.steal_from.Goals as goal

pub steal_as-requires-clause-takes : goal.steal_as-requires-clause-takes
steal_as-requires-clause-takes c = takes_first _ _ (ap (λ v. v.knows) c.loop.invariant.1 ∙ c.requires.knows)

pub returns-in-Empty-clause-took : goal.returns-in-Empty-clause-took
returns-in-Empty-clause-took c = search rules
