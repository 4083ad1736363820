use Rattle.std.proofs.Common.{◌∙◌, ap, not, sym, refl}
use Rattle.oth_text.proofs.PairLemmas.{pair_passed, pair_played}
use Rattle.oth_text.proofs.transcript.TranscriptReader.push_byte.Goals as goal

pub returns-then-is_none : goal.returns-then-is_none
returns-then-is_none c = λ from text so_far.
    let played = c.play_pair.ensures in
    pair_played from _ _ _ _ text (rw (sym c.self.view_is) at so_far) c.in-Some.is played.pending played.is_empty
    (c.is_none.ensures ∙ ap not c.if-is_none.true) played.fault played.played

pub returns-else-is_none : goal.returns-else-is_none
returns-else-is_none c = λ from text so_far.
    pair_passed from _ _ _ _ text (rw (sym c.self.view_is) at so_far) c.in-Some.is refl refl (c.is_none.ensures ∙ ap not c.if-is_none.false) refl
