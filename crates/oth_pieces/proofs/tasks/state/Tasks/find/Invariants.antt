use Rattle.std.proofs.Common.{None}
use Rattle.oth_pieces.specs.Hands.{Draws}
use Rattle.oth_pieces.proofs.tasks.state.Tasks.find.Given as goal

abbrev pub invariant-loop-step : goal.invariant-loop-step
invariant-loop-step l = Draws l.self l.fn.hand l.hand None
