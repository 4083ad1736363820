use Rattle.std.proofs.Common.{◌≡◌, ◌∙◌, ap, sym}
use Rattle.oth_text.specs.Transcript.{transcript_reading_from, with_forced_pass}
use Rattle.oth_text.proofs.TranscriptLemmas.{forced, reading_transcript, reading_transcript_fault, says_fault, says_transcript, transcript_mover}
use Rattle.oth_text.proofs.transcript.play_transcript.Goals as goal

is_reading : (c : goal.After-read_from) → c.read_from.result ≡ transcript_reading_from (with_forced_pass c.args.from) c.args.text.now
is_reading c = c.read_from.ensures ∙ ap (λ p. transcript_reading_from p c.args.text.now) c.with_forced_pass.ensures.passed

pub returns-clause-reading : goal.returns-clause-reading
returns-clause-reading c = is_reading c

pub returns-clause-position : goal.returns-clause-position
returns-clause-position c = λ p. ((λ e. says_transcript _ _ p (sym (is_reading c) ∙ e)), (λ h. is_reading c ∙ reading_transcript _ _ p h))

pub returns-clause-fault : goal.returns-clause-fault
returns-clause-fault c = λ f. ((λ e. says_fault _ _ f (sym (is_reading c) ∙ e)), (λ h. is_reading c ∙ reading_transcript_fault _ _ f h))

pub returns-clause-mover : goal.returns-clause-mover
returns-clause-mover c = transcript_mover _ _ _ (forced c.args.from) (is_reading c)
