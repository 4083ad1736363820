use Rattle.std.proofs.Common.{rules}
use Rattle.oth_main.proofs.book.reasons.line_of_file.Goals as goal

pub returns : goal.returns
returns c = search rules
