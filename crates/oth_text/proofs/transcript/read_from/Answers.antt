use Rattle.std.proofs.Common.{[]}
use Rattle.oth_text.proofs.transcript.read_from.Goals as goal

pub returns : goal.returns
returns c = c.read.ensures c.args.from c.args.text.now (c.push.ensures c.args.from [] c.starting_at-reader.ensures)
