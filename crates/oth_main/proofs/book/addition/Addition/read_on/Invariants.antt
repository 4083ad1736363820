-- the lines that ended so far are answered
use Rattle.std.proofs.Common.{◌≡◌, ◌<◌, length}
use Rattle.oth_main.specs.Addition.{AddsBytes, OfInput}
use Rattle.oth_main.proofs.book.addition.Addition.read_on.Given as goal

abbrev pub invariant-loop : goal.invariant-loop
invariant-loop g l = record {
  iterator : (goal.iterator-loop g).can_next l.iterator' × (goal.iterator-loop g).is_finite l.iterator';
  done : OfInput (g.R.Source.remaining l.fn.reader) (g.R.Source.remaining l.reader) (AddsBytes l.fn.self.book l.fn.self.line l.self.book l.self.line);
  works : g.R.Source.failed l.reader ≡ g.R.Source.failed l.fn.reader;
  room : 0 < length l.buffer;
}
