use Rattle.oth_search.proofs.BoundsLemmas.Enclosing.{IsBackedUp-start}
use Rattle.oth_search.proofs.bounds.backup.BackedUp.of.Goals as goal

pub invariant_of-result : goal.invariant_of-result
invariant_of-result c =
    record { can_move = c.requires; backed_up = IsBackedUp-start c.args.scoring c.args.board _ c.moves.ensures }
