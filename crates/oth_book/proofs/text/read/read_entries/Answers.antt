use Rattle.std.proofs.Common.{◌<◌, ◌≤◌, ◌-◌, ◌+◌, arith, inr, length-drop}
use Rattle.std.proofs.lemmas.Result.{err_from_is_err_and}
use Rattle.oth_book.proofs.ReadLemmas.{begins_push, none_before, header_long, next_here, fault_here}
use Rattle.oth_book.proofs.text.read.read_entries.Goals as goal

pub after_line-rest-requires : goal.after_line-rest-requires
after_line-rest-requires c = header_long c.args.version c.args.bytes.now c.requires

pub loop-claims-init : goal.loop-claims-init
loop-claims-init c = rw (c.after_line-rest.ensures, c.new-claims.ensures.items) (none_before c.args.version c.args.bytes.now c.requires)

pub returns-in_err-claim-clause-fault : goal.returns-in_err-claim-clause-fault
returns-in_err-claim-clause-fault c =
    let p = err_from_is_err_and c.from_residual.result c.from_residual.ensures.1 in
    rw (p.1, p.2) (inr (
      c.args.version,
      c.loop-claims.claims.items,
      c.loop-claims.rest.now,
      c.loop-claims.invariant,
      fault_here _ _ _ _ _ _ (rw c.as_slice.ensures.value at c.after.ensures.count) (rw c.as_slice.ensures.value at c.after.ensures.last) c.in_err-claim.ensures.fault,
    ))

pub loop-claims-preserved : goal.loop-claims-preserved
loop-claims-preserved c =
    let next =
    next_here _ c.loop-claims.claims.items _ _ _ _ (rw c.as_slice.ensures.value at c.after.ensures.count) (rw c.as_slice.ensures.value at c.after.ensures.last)
    (rw c.in-Some.is at c.in_ok-claim.ensures.entry) in
    rw (c.push.ensures.items, c.if-is_err.ensures.negation, c.after_line-rest-in-Some.ensures)
    (begins_push c.args.version c.loop-claims.claims.items c.loop-claims.rest.now c.args.bytes.now _ c.loop-claims.invariant next)

pub loop-claims-smaller : goal.loop-claims-smaller
loop-claims-smaller c =
    let long = rw c.in-Some.is at c.in_ok-claim.ensures.long in
    rw (c.after_line-rest-in-Some.ensures, length-drop) (shorter _ _ long)
  where
    shorter : (n len : _) → 83 + n ≤ len → len - (83 + n) < len
    shorter n len h = omega arith
