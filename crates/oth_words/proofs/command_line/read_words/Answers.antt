use Rattle.std.proofs.Common.{rules}
use Rattle.oth_words.proofs.command_line.read_words.Goals as goal

pub read_with-requires : goal.read_with-requires
read_with-requires c = search rules
