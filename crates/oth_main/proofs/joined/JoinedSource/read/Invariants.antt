-- no byte was given so far
use Rattle.std.proofs.Common.{◌≡◌, ◌<◌, [], length, map}
use Rattle.std.specs.Io.KnownBytes.{Consumes}
use Rattle.oth_main.specs.Joined.{joined}
use Rattle.oth_main.proofs.joined.JoinedSource.read.Given as goal

abbrev pub invariant-loop : goal.invariant-loop
invariant-loop g l = record {
  given : Consumes (joined l.fn.self.is_begun (g.R.Source.remaining l.fn.self.source) (map g.R.Source.remaining l.fn.self.later.items))
      (joined l.self.is_begun (g.R.Source.remaining l.self.source) (map g.R.Source.remaining l.self.later.items)) [];
  works : l.self.has_failed ≡ l.fn.self.has_failed;
  room : 0 < length l.buffer;
}
