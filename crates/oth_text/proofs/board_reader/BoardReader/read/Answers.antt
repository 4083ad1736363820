use Rattle.std.proofs.Common.{◌∙◌, ap}
use Rattle.oth_text.specs.BoardLine.{reading}
use Rattle.oth_text.proofs.KeptLemmas.{reading-kept}
use Rattle.oth_text.proofs.board_reader.BoardReader.read.Goals as goal

pub returns : goal.returns
returns c = λ line keeps. c.read_board.ensures.reading ∙ ap reading (c.as_slice.ensures.value ∙ c.self.view_is) ∙ reading-kept _ _ keeps
