-- the bytes begin with the header and the lines of a number of entries, of which this one is the last
use Rattle.std.proofs.Common.{◌≡◌, List, length}
use Rattle.oth_book.specs.declared.claim.Claim.{Claim}
use Rattle.oth_book.specs.Fault.{Begins, last_of}
use Rattle.oth_book.proofs.text.read.check_entries.Given as goal

abbrev pub invariant-loop-claim : goal.invariant-loop-claim
invariant-loop-claim l =
    (before : List Claim) × Begins l.version before l.rest l.bytes × (l.count ≡ length before) × (l.last ≡ last_of before)

abbrev pub decreases-loop-claim : goal.decreases-loop-claim
decreases-loop-claim l = length l.rest
