use Rattle.oth_search.proofs.RootLemmas.MoveLists.{reordered}
use Rattle.oth_search.proofs.root.moves.RootMoves.move_to_front.Goals as goal

pub invariant_of-self : goal.invariant_of-self
invariant_of-self c = reordered _ c.self.inside.list.items _ _ c.as_mut_slice.ensures.value c.swap.ensures.permutation c.self.invariant
