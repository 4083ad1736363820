use Rattle.std.proofs.Common.{arith}
use Rattle.oth_search.proofs.RootLemmas.MoveLists.{narrowed}
use Rattle.oth_search.proofs.root.moves.RootMoves.forget_least.Goals as goal

pub invariant_of-self : goal.invariant_of-self
invariant_of-self c =
    narrowed _ c.self.inside.list.items _ c.args.place c.index-deref-place.result c.with_lower.result c.deref_mut.ensures.value (omega (arith, c.if-place-len.true, c.len.ensures.value))
    (rw c.deref.ensures.0 at c.index-deref-place.is)
    c.with_lower.ensures.board c.with_lower.ensures.scoring c.self.invariant
