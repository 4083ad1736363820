use Rattle.std.proofs.Common.{◌+◌, arith, ap, of_calls, ◌∙◌}
use Rattle.oth_book.proofs.VerifyLemmas.{untrue_at, same_push, true_push}
use Rattle.oth_book.proofs.verifying.verified.Goals as goal

pub overflow_cast-result : goal.overflow_cast-result
overflow_cast-result g c = let count = c.requires.claims.1.count in omega (arith, c.len-in-Err.ensures, c.loop-claim.invariant.len, c.loop-claim-test.true, count)

pub overflow_add-result : goal.overflow_add-result
overflow_add-result g c = let count = c.requires.claims.1.count in omega (arith, c.len-in-Err.ensures, c.loop-claim.invariant.len, c.loop-claim-test.true, count)

pub returns-in-Err-clause-wrong : goal.returns-in-Err-clause-wrong
returns-in-Err-clause-wrong g c = (
  c.loop-claim.claim-index,
  ap (λ n. n + 1) (c.len-in-Err.ensures ∙ c.loop-claim.invariant.len),
  untrue_at c.args.scoring c.loop-claim.entries.items c.args.claims.now c.loop-claim.claim-index _ _ c.loop-claim.invariant.same c.loop-claim.invariant.each c.loop-claim-test.true
      c.claim-item.is c.in-Err.ensures.cause,
)

pub loop-claim-preserved : goal.loop-claim-preserved
loop-claim-preserved g c =
    let items = rw c.unwrap.ensures at c.push.ensures.items in
    let len = rw c.unwrap.ensures at c.push.ensures.len in
    record {
      same = items ∙ same_push c.loop-claim.entries.items c.args.claims.now c.loop-claim.claim-index _ c.loop-claim.invariant.same c.loop-claim-test.true c.claim-item.is;
      each = rw items (true_push c.args.scoring c.loop-claim.entries.items _ c.loop-claim.invariant.each c.in_default-check.ensures.ok);
      len = len ∙ ap (λ n. n + 1) c.loop-claim.invariant.len;
      callable = search of_calls;
      room = omega (arith, c.push.ensures.capacity, c.loop-claim.invariant.room);
    }
