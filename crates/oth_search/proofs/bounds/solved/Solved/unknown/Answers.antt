use Rattle.std.proofs.Common.{rules}
use Rattle.oth_search.proofs.BoundsLemmas.Enclosing.{Encloses-all}
use Rattle.oth_search.proofs.bounds.solved.Solved.unknown.Goals as goal

pub invariant_of-result : goal.invariant_of-result
invariant_of-result c =
    record { encloses = Encloses-all c.args.scoring c.args.board _ _ c.all.ensures.lower c.all.ensures.upper }

pub returns-clause-lower : goal.returns-clause-lower
returns-clause-lower c = search rules

pub returns-clause-upper : goal.returns-clause-upper
returns-clause-upper c = search rules
