-- A flush that was interrupted moved no byte.
use Rattle.std.proofs.Common.{◌≡◌}
use Rattle.std.specs.Io.KnownBytes.{Keeps}
use Rattle.oth_device.proofs.device.ToWriteSink.flush.Given as goal

abbrev pub invariant-loop : goal.invariant-loop
invariant-loop g l = record {
  bytes : Keeps (g.W.Write.contents l.fn.self.writer) (g.W.Write.contents l.self.writer);
  failure : l.self.write_failure ≡ l.fn.self.write_failure;
  flushed : l.self.flushed ≡ l.fn.self.flushed;
}
