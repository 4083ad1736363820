use Rattle.std.proofs.Common.{arith, inl, inr, ⊎_elim}
use Rattle.std.proofs.lemmas.Int.{ints}
use Rattle.oth_search.proofs.BoundsLemmas.Enclosing.{IsBackedUp-next, same_scoring}
use Rattle.oth_search.proofs.bounds.backup.BackedUp.with.Goals as goal

pub invariant_of-result : goal.invariant_of-result
invariant_of-result c =
    let b = c.args.self in
    let r = c.args.reply.now in
    let low = c.greater.ensures in
    let high = c.greater-2.ensures in
    record {
      can_move = b.can_move;
      backed_up = IsBackedUp-next b.scoring b.board r.board b.left c.args.square _ b.lower b.upper _ _ r.interval.lower r.interval.upper _ _ c.greater.result c.greater-2.result _ _ b.backed_up
          c.requires.left c.without.ensures.rest c.requires.board r.interval.is_interval
          (same_scoring b.scoring r.scoring r.board _ _ c.requires.scoring r.encloses)
          (omega (arith, ints)) (omega (arith, ints)) (omega (arith, ints)) (omega (arith, ints))
          (record { left = low.left; right = low.right; least = low.least })
          (record { left = high.left; right = high.right; least = high.least })
          (omega (arith, ints)) (omega (arith, ints));
    }

pub returns-clause-lower : goal.returns-clause-lower
returns-clause-lower c = (omega (arith, ints, c.greater.ensures.left), omega (arith, ints, c.greater.ensures.right))

pub returns-clause-upper : goal.returns-clause-upper
returns-clause-upper c =
    ⊎_elim (λ e. inl (omega (arith, ints, e))) (λ e. inr (omega (arith, ints, e))) c.greater-2.ensures.one
