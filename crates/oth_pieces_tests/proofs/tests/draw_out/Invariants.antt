use Rattle.std.proofs.Common.{◌≡◌}
use Rattle.oth_pieces.specs.Hands.{IsHandOf, number_of}
use Rattle.oth_pieces_tests.proofs.tests.draw_out.Given as goal

abbrev pub invariant-loop : goal.invariant-loop
invariant-loop l = IsHandOf l.tasks l.hand × (number_of l.hand ≡ number_of l.initial.hand)
