use Rattle.std.proofs.Common.{rules}
use Rattle.oth_words.proofs.command_line.owned.Goals as goal

pub returns-in_ok-from_str-in-Verify : goal.returns-in_ok-from_str-in-Verify
returns-in_ok-from_str-in-Verify c = search rules
