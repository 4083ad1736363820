use Rattle.std.proofs.Common.{rules}
use Rattle.oth_text.proofs.transcript.TranscriptReader.clear.Goals as goal

pub returns : goal.returns
returns c = search rules
