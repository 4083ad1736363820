use Rattle.std.proofs.Common.{true}
use Rattle.oth_pieces.proofs.Handings.{draws_into, draws_nothing}
use Rattle.oth_pieces.proofs.tasks.state.Tasks.draw.Goals as goal

pub returns-in-Some-clause-hand : goal.returns-in-Some-clause-hand
returns-in-Some-clause-hand c =
    draws_into c.args.self.now c.args.hand.now c.find-found.new.hand c.requires c.find-found.result c.in-Some.number c.push_reserved.new.self c.find-found.new.hand.ended
    c.find-found.ensures c.in-Some.is c.push_reserved.ensures.items

pub returns-in-None-clause-hand : goal.returns-in-None-clause-hand
returns-in-None-clause-hand c = draws_nothing c.args.self.now c.args.hand.now c.find-found.new.hand c.requires c.find-found.result true c.find-found.ensures c.in-None.is
