use Rattle.oth_history.proofs.Histories.{begins_then, begins_each_other}
use Rattle.oth_history.proofs.laws.beginning_is_an_order.Goals as goal

pub returns-clause-on : goal.returns-clause-on
returns-clause-on g c = begins_then

pub returns-clause-same : goal.returns-clause-same
returns-clause-same g c = begins_each_other
