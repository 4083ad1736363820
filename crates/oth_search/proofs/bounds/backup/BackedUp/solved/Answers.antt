use Rattle.std.proofs.Common.{refl, arith}
use Rattle.std.proofs.lemmas.Int.{ints}
use Rattle.oth_search.proofs.BoundsLemmas.Enclosing.{IsBackedUp-end, IsBackedUp-so_far}
use Rattle.oth_search.proofs.bounds.backup.BackedUp.solved.Goals as goal

pub between-requires-clause-encloses : goal.between-requires-clause-encloses
between-requires-clause-encloses c =
    let b = c.args.self in
    IsBackedUp-so_far b.scoring b.board b.left b.lower b.upper _ _ b.backed_up (omega (arith, ints)) refl

pub between-requires-2-clause-encloses : goal.between-requires-2-clause-encloses
between-requires-2-clause-encloses c =
    let b = c.args.self in
    IsBackedUp-end b.scoring b.board b.left b.lower b.upper _ _ b.backed_up b.can_move (omega (arith, c.if-self-ne0.false)) (omega (arith, ints)) (omega (arith, ints))
