-- the turns so far are told, and what they lost is counted
use Rattle.std.proofs.Common.{◌≡◌, ◌≤◌, ◌*◌, take}
use Rattle.std.specs.List.{flat_map}
use Rattle.arrayvec.specs.ArrayVec.{array_vec_len}
use Rattle.oth_text.specs.Analysis.{lost_by, turn_part}
use Rattle.oth_text.specs.declared.position.Side.TheVariants.{Black, White}
use Rattle.oth_web.proofs.analysing.push_turns.Given as goal

abbrev pub invariant-loop-turn : goal.invariant-loop-turn
invariant-loop-turn l = record {
  told : l.text.items ≡ flat_map (turn_part l.number l.scoring) (take l.turn-index l.turns);
  len : array_vec_len l.text ≤ 257 * l.turn-index;
  black : l.lost.black ≡ lost_by Black l.scoring (take l.turn-index l.turns);
  white : l.lost.white ≡ lost_by White l.scoring (take l.turn-index l.turns);
  few : l.lost.black ≤ 128 * l.turn-index;
  fewer : l.lost.white ≤ 128 * l.turn-index;
}
