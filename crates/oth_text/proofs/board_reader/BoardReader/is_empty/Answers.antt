use Rattle.std.proofs.Common.{rules}
use Rattle.oth_text.proofs.board_reader.BoardReader.is_empty.Goals as goal

pub returns : goal.returns
returns c = search rules
