use Rattle.std.proofs.Common.{arith, rules}
use Rattle.oth_text.proofs.PairLemmas.{no_more_empties}
use Rattle.oth_text.proofs.transcript.TranscriptReader.starting_at.Goals as goal

pub invariant_of-result : goal.invariant_of-result
invariant_of-result c = let most = no_more_empties c.args.position.board in omega arith

pub returns : goal.returns
returns c = search rules
