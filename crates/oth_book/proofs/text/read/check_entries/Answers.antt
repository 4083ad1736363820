use Rattle.std.proofs.Common.{inr, refl, [], ◌++◌, ◌∷◌}
use Rattle.std.proofs.lemmas.Result.{err_from_is_err_and}
use Rattle.oth_book.proofs.ReadLemmas.{begins_push, none_before, header_long, length_push, last_push, next_here, fault_here}
use Rattle.oth_book.proofs.text.read.check_entries.Goals as goal

pub after_line-rest-requires : goal.after_line-rest-requires
after_line-rest-requires c = header_long c.args.version c.args.bytes.now c.requires

pub loop-claim-init : goal.loop-claim-init
loop-claim-init c = rw (c.after_line-rest.ensures) ([], none_before c.args.version c.args.bytes.now c.requires, refl, refl)

pub returns-in_err-claim-clause-fault : goal.returns-in_err-claim-clause-fault
returns-in_err-claim-clause-fault c =
    let p = err_from_is_err_and c.from_residual.result c.from_residual.ensures.1 in
    let i = c.loop-claim.invariant in
    rw (p.1, p.2) (inr (c.args.version, i.0, c.loop-claim.rest.now, i.1, fault_here _ _ _ _ _ _ i.2 i.3 c.in_err-claim.ensures.fault))

pub loop-claim-preserved : goal.loop-claim-preserved
loop-claim-preserved c =
    let i = c.loop-claim.invariant in
    let next = next_here _ i.0 _ _ _ _ i.2 i.3 (rw c.in-Some.is at c.in_ok-claim.ensures.entry) in
    rw (c.after_line-rest-in-Some.ensures) (i.0 ++ c.in-Some.claim ∷ [], begins_push c.args.version i.0 c.loop-claim.rest.now c.args.bytes.now _ i.1 next, length_push i.0 _ _ i.2, last_push i.0 _)
