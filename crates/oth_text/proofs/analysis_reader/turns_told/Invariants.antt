-- the turns that are told are those so far, and those of the rest
use Rattle.std.proofs.Common.{◌≡◌, ◌++◌, Ok, filter, length}
use Rattle.oth_rules.specs.Position.{empty_count}
use Rattle.arrayvec.specs.ArrayVec.{array_vec_len}
use Rattle.oth_text.specs.Analysis.{is_told, turns, turns_from}
use Rattle.oth_text.proofs.AnalysisLemmas.{HasRoom}
use Rattle.oth_text.proofs.analysis_reader.turns_told.Given as goal

abbrev pub invariant-loop-rest : goal.invariant-loop-rest
invariant-loop-rest l = record {
  told : filter (is_told l.last) (turns_from (Ok l.fn.from) l.text) ≡ l.told.items ++ filter (is_told l.last) (turns l.position l.rest);
  room : HasRoom (array_vec_len l.told) (empty_count l.position.board);
}

abbrev pub decreases-loop-rest : goal.decreases-loop-rest
decreases-loop-rest l = length l.rest
