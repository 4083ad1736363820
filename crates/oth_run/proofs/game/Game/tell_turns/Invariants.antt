-- the turns so far are told, and what they lost is counted
use Rattle.std.proofs.Common.{◌≡◌, ◌≤◌, ◌*◌, ◌++◌, ℕ, List, Option, take}
use Rattle.std.specs.List.{flat_map}
use Rattle.oth_text.specs.Analysis.{lost_by, turn_part}
use Rattle.oth_text.specs.declared.position.Side.TheVariants.{Black, White}
use Rattle.oth_run.specs.Gathered.{IsGathered}
use Rattle.oth_run.proofs.game.Game.tell_turns.Given as goal

abbrev pub invariant-loop-turn : goal.invariant-loop-turn
invariant-loop-turn g l = record {
  told : (before : Option (List ℕ)) (done : List ℕ) → IsGathered before (g.W.Sink.contents l.fn.writer) l.fn.waiting.bytes.items done
      → IsGathered before (g.W.Sink.contents l.writer) l.waiting.bytes.items (done ++ flat_map (turn_part l.self.number l.solver.settings.scoring) (take l.turn-index l.turns));
  black : l.lost.black ≡ lost_by Black l.solver.settings.scoring (take l.turn-index l.turns);
  white : l.lost.white ≡ lost_by White l.solver.settings.scoring (take l.turn-index l.turns);
  few : l.lost.black ≤ 128 * l.turn-index;
  fewer : l.lost.white ≤ 128 * l.turn-index;
  works : g.W.Sink.failed l.writer ≡ g.W.Sink.failed l.fn.writer;
}
