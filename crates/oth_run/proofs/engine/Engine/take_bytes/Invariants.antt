-- what holds before the bytes holds after the lines so far
use Rattle.std.proofs.Common.{◌≡◌, ◌++◌, ℕ, List, Option, length}
use Rattle.oth_run.specs.Reply.{reply}
use Rattle.oth_run.specs.Halfway.{IsBehind, IsUpTo}
use Rattle.oth_run.proofs.engine.Engine.take_bytes.Given as goal

abbrev pub invariant-loop-line : goal.invariant-loop-line
invariant-loop-line g l = record {
  done : (front : List ℕ) × (l.bytes ≡ front ++ l.rest) × ((before : Option (List ℕ)) (input : List ℕ)
      → IsUpTo (reply l.solver.settings) (IsBehind l.solver.settings l.fn.self.line l.fn.self.is_faulty) before (g.W.Sink.contents l.fn.writer) l.fn.self.waiting.bytes.items input
      → IsUpTo (reply l.solver.settings) (IsBehind l.solver.settings l.self.line l.self.is_faulty) before (g.W.Sink.contents l.writer) l.self.waiting.bytes.items (input ++ front));
  works : g.W.Sink.failed l.writer ≡ g.W.Sink.failed l.fn.writer;
}

abbrev pub decreases-loop-line : goal.decreases-loop-line
decreases-loop-line g l = length l.rest
