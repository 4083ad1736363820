use Rattle.oth_rules.proofs.Words.{swapped}
use Rattle.oth_rules.proofs.Positions.{pass-words}
use Rattle.oth_rules.proofs.twin.Twin.pass.Goals as goal

pub invariant_of-result : goal.invariant_of-result
invariant_of-result c = swapped (record { own = c.self.inside.own; opp = c.self.inside.opp }) c.self.invariant

pub returns : goal.returns
returns c = rw (← c.self.view_is) (pass-words (record { own = c.self.inside.own; opp = c.self.inside.opp }) c.self.invariant)
