use Rattle.std.proofs.Common.{◌∙◌, ap}
use Rattle.oth_text.specs.BoardLine.{solvable_reading}
use Rattle.oth_text.proofs.KeptLemmas.{solvable_reading-kept}
use Rattle.oth_text.proofs.board_reader.BoardReader.read_solvable.Goals as goal

pub returns-clause-reading : goal.returns-clause-reading
returns-clause-reading c = λ line keeps. c.read_solvable.ensures.reading ∙ ap solvable_reading (c.as_slice.ensures.value ∙ c.self.view_is) ∙ solvable_reading-kept _ _ keeps
