use Rattle.std.proofs.Common.{rules}
use Rattle.oth_text.proofs.transcript.square_named.Goals as goal

pub returns-then-not-contains : goal.returns-then-not-contains
returns-then-not-contains c = search rules
