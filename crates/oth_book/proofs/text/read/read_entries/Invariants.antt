-- the bytes begin with the header and the lines of the entries so far
use Rattle.std.proofs.Common.{length}
use Rattle.oth_book.specs.Fault.{Begins}
use Rattle.oth_book.proofs.text.read.read_entries.Given as goal

abbrev pub invariant-loop-claims : goal.invariant-loop-claims
invariant-loop-claims l = Begins l.version l.claims.items l.rest l.bytes

abbrev pub decreases-loop-claims : goal.decreases-loop-claims
decreases-loop-claims l = length l.rest
