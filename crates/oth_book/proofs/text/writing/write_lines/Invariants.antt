-- the header and the lines so far were written
use Rattle.std.proofs.Common.{◌≡◌, ◌++◌, take}
use Rattle.std.specs.Io.KnownBytes.{Appends}
use Rattle.oth_book.specs.Shape.{header}
use Rattle.oth_book.specs.Text.{lines}
use Rattle.oth_book.proofs.text.writing.write_lines.Given as goal

abbrev pub invariant-loop-entry : goal.invariant-loop-entry
invariant-loop-entry g l = record {
  written : Appends (g.W.Sink.contents l.fn.writer) (g.W.Sink.contents l.writer) (header l.fn.version ++ lines l.fn.version (take l.entry-index l.entries));
  works : g.W.Sink.failed l.writer ≡ g.W.Sink.failed l.fn.writer;
}
