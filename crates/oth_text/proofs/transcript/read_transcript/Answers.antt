use Rattle.std.proofs.Common.{◌≡◌, ◌∙◌, ap, sym}
use Rattle.oth_text.specs.Sides.{start}
use Rattle.oth_text.specs.Transcript.{transcript_reading, transcript_reading_from}
use Rattle.oth_text.proofs.TranscriptLemmas.{reading_transcript, reading_transcript_fault, says_fault, says_transcript, start_mover, transcript_mover}
use Rattle.oth_text.proofs.transcript.read_transcript.Goals as goal

is_reading : (c : goal.After-read_from) → c.read_from.result ≡ transcript_reading c.args.text.now
is_reading c = c.read_from.ensures ∙ ap (λ p. transcript_reading_from p c.args.text.now) c.start.ensures

pub returns-clause-reading : goal.returns-clause-reading
returns-clause-reading c = is_reading c

pub returns-clause-position : goal.returns-clause-position
returns-clause-position c = λ p. ((λ e. says_transcript start _ p (sym (is_reading c) ∙ e)), (λ h. is_reading c ∙ reading_transcript start _ p h))

pub returns-clause-fault : goal.returns-clause-fault
returns-clause-fault c = λ f. ((λ e. says_fault start _ f (sym (is_reading c) ∙ e)), (λ h. is_reading c ∙ reading_transcript_fault start _ f h))

pub returns-clause-mover : goal.returns-clause-mover
returns-clause-mover c = transcript_mover start _ _ start_mover (is_reading c)
