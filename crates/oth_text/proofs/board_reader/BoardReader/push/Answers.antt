use Rattle.std.proofs.Common.{◌∙◌}
use Rattle.oth_text.proofs.KeptLemmas.{kept_more}
use Rattle.oth_text.proofs.board_reader.BoardReader.push.Goals as goal

pub returns : goal.returns
returns c = λ line keeps.
    let grown = rw c.unwrap.ensures at c.try_extend_from_slice.ensures.ok in
    grown ∙ kept_more 67 c.self.inside.kept.items line c.args.bytes.now _ _ (c.self.view_is ∙ keeps) c.remaining_capacity.ensures c.min-count.ensures
