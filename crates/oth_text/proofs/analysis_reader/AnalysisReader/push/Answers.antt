use Rattle.std.proofs.Common.{◌∙◌}
use Rattle.oth_text.specs.Sides.{start}
use Rattle.oth_text.proofs.KeptLemmas.{kept_more}
use Rattle.oth_text.proofs.analysis_reader.AnalysisReader.push.Goals as goal

pub returns : goal.returns
returns c = λ line kept.
    let grown = rw c.unwrap.ensures at c.try_extend_from_slice.ensures.ok in
    record {
      front = grown ∙ kept_more 195 c.args.self.now.front.items line c.args.bytes.now _ _ kept.front c.remaining_capacity.ensures c.min-count.ensures;
      transcript = c.push.ensures start line kept.transcript;
      game = c.push-2.ensures line kept.game;
    }
