-- what held before the bytes holds after the lines so far
use Rattle.std.proofs.Common.{◌≡◌, ◌++◌, ℕ, List, length}
use Rattle.oth_main.specs.Addition.{AddsBytes}
use Rattle.oth_main.proofs.book.addition.Addition.take_bytes.Given as goal

abbrev pub invariant-loop-line : goal.invariant-loop-line
invariant-loop-line g l = (front : List ℕ) × (l.bytes ≡ front ++ l.rest) × AddsBytes l.fn.self.book l.fn.self.line l.self.book l.self.line front

abbrev pub decreases-loop-line : goal.decreases-loop-line
decreases-loop-line g l = length l.rest
