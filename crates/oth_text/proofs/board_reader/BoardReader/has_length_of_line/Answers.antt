use Rattle.std.proofs.Common.{◌==◌, ◌∙◌, ap, length}
use Rattle.oth_text.proofs.KeptLemmas.{kept_length}
use Rattle.oth_text.proofs.board_reader.BoardReader.has_length_of_line.Goals as goal

pub returns : goal.returns
returns c = λ line keeps. ap (λ n. n == 66) (c.len.ensures.value ∙ ap length c.self.view_is) ∙ kept_length _ line keeps
