use Rattle.oth_pieces.proofs.Handouts.{stay_fit, if_tokens}
use Rattle.oth_pieces.proofs.tasks.dealing.pile_of.Goals as goal

pub returns-clause-owners : goal.returns-clause-owners
returns-clause-owners c = stay_fit c.args._tasks.now c.args.owners.now c.passes_of.new.owners c.requires c.passes_of.ensures.owners

pub returns-clause-pile : goal.returns-clause-pile
returns-clause-pile c = if_tokens c.args._tasks.now c.args.owners.now c.passes_of.result c.requires c.passes_of.ensures.passes
