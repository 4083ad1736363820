use Rattle.std.proofs.Common.{◌∙◌, sym}
use Rattle.oth_text.proofs.PairLemmas.{at_odd, at_fault, at_end}
use Rattle.oth_text.proofs.transcript.TranscriptReader.read.Goals as goal

pub returns-then-is_some : goal.returns-then-is_some
returns-then-is_some c = λ from text so_far. at_odd from _ text (rw (sym c.self.view_is) at so_far) (sym c.is_some.ensures ∙ c.if-is_some.true)

pub returns-in-Some : goal.returns-in-Some
returns-in-Some c = λ from text so_far. at_fault from _ text _ (rw (sym c.self.view_is) at so_far) (sym c.is_some.ensures ∙ c.if-is_some.false) c.in-Some.is

pub returns-in-None : goal.returns-in-None
returns-in-None c = λ from text so_far. at_end from _ text (rw (sym c.self.view_is) at so_far) (sym c.is_some.ensures ∙ c.if-is_some.false) c.in-None.is
