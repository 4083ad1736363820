use Rattle.std.proofs.Common.{◌≡◌, [], ◌∷◌, refl}
use Rattle.std.specs.Prelude.{slice_index_or}
use Rattle.oth_rules.specs.Square.{has, word_of}
use Rattle.oth_rules.specs.Line.{is_next, is_on_line, Rises}
use Rattle.oth_rules.proofs.HalfTurns.{two_lanes, each_lane}
use Rattle.oth_rules.proofs.Moves.{past_rising_word}
use Rattle.oth_rules.proofs.Slides.{past_rising}
use Rattle.oth_rules.proofs.twin.past.Goals as goal

pub returns-clause-past : goal.returns-clause-past
returns-clause-past c =
    let s = two_lanes c.args.source c.fits-source.0 c.fits-source.1 in
    let t = two_lanes c.args.through c.fits-through.0 c.fits-through.1 in
    let s0 = s.first in
    let s1 = s.second in
    let t0 = t.first in
    let t1 = t.second in
    let by = c.args.by in
    rw s.are
    (rw t.are
    (λ d i l.
    each_lane
    (λ i.
    Rises d by (has (slice_index_or (t0 ∷ t1 ∷ []) i 0)) →
    slice_index_or (past_rising_word by s0 t0 ∷ past_rising_word by s1 t1 ∷ []) i 0
    ≡ word_of (is_next d (is_on_line 6 d (has (slice_index_or (s0 ∷ s1 ∷ []) i 0)) (has (slice_index_or (t0 ∷ t1 ∷ []) i 0)))))
    (λ along. past_rising d by s0 t0 s.first_fits t.first_fits along)
    (λ along. past_rising d by s1 t1 s.second_fits t.second_fits along)
    i l))

pub returns-clause-two : goal.returns-clause-two
returns-clause-two c =
    let s = two_lanes c.args.source c.fits-source.0 c.fits-source.1 in
    let t = two_lanes c.args.through c.fits-through.0 c.fits-through.1 in
    rw s.are (rw t.are (refl {a = 2}))
