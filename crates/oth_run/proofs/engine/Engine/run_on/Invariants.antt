-- the reports of the lines that ended so far, but for those of the last chunk, are gathered
use Rattle.std.proofs.Common.{◌≡◌, ◌<◌, ◌≤◌, ℕ, List, ◌++◌, Option, false, length, take}
use Rattle.std.specs.Io.KnownBytes.{Consumes}
use Rattle.oth_run.specs.Halfway.{IsAt}
use Rattle.oth_run.proofs.engine.Engine.run_on.Given as goal

abbrev pub invariant-loop : goal.invariant-loop
invariant-loop g l = record {
  iterator : (goal.iterator-loop g).can_next l.iterator' × (goal.iterator-loop g).is_finite l.iterator';
  done : (front : List ℕ) × (more : List ℕ) × Consumes (g.R.Source.remaining l.fn.reader) (g.R.Source.remaining l.reader) more
      × (take l.fn.count l.fn.buffer ++ more ≡ front ++ take l.count l.buffer)
      × ((before : Option (List ℕ)) (input : List ℕ) → IsAt l.solver.settings l.fn.self before (g.W.Sink.contents l.fn.writer) input
      → IsAt l.solver.settings l.self before (g.W.Sink.contents l.writer) (input ++ front));
  room : 0 < length l.buffer;
  bound : l.count ≤ length l.buffer;
  reader : g.R.Source.failed l.reader ≡ false;
  writer : g.W.Sink.failed l.writer ≡ false;
}
