use Rattle.std.proofs.Common.{◌≡◌, arith, rules}
use Rattle.std.proofs.lemmas.Int.{ints}
use Rattle.oth_rules.specs.Score.{score_of}
use Rattle.oth_rules.specs.Value.{value}
use Rattle.oth_search.proofs.BoundsLemmas.Enclosing.{Encloses-same, joined-both}
use Rattle.oth_search.proofs.bounds.solved.Solved.joined.Goals as goal

pub between-requires-clause-bounds : goal.between-requires-clause-bounds
between-requires-clause-bounds c =
    let s = c.args.self.now in
    let o = c.args.other.now in
    let board : o.board ≡ s.board = search rules in
    let scoring : o.scoring ≡ s.scoring = search rules in
    (joined-both (value (score_of s.scoring) s.board) s.interval.lower s.interval.upper o.interval.lower o.interval.upper _ _ _ _ c.greater-lower.result c.lesser-upper.result _ _
    s.interval.is_interval s.encloses (Encloses-same s.scoring o.scoring s.board o.board _ _ board scoring o.encloses) (omega (arith, ints)) (omega (arith, ints))
    (omega (arith, ints)) (omega (arith, ints)) c.greater-lower.ensures.one c.greater-lower.ensures.left c.lesser-upper.ensures.one c.lesser-upper.ensures.left (omega (arith, ints))
    (omega (arith, ints))).interval

pub between-requires-clause-encloses : goal.between-requires-clause-encloses
between-requires-clause-encloses c =
    let s = c.args.self.now in
    let o = c.args.other.now in
    let board : o.board ≡ s.board = search rules in
    let scoring : o.scoring ≡ s.scoring = search rules in
    (joined-both (value (score_of s.scoring) s.board) s.interval.lower s.interval.upper o.interval.lower o.interval.upper _ _ _ _ c.greater-lower.result c.lesser-upper.result _ _
    s.interval.is_interval s.encloses (Encloses-same s.scoring o.scoring s.board o.board _ _ board scoring o.encloses) (omega (arith, ints)) (omega (arith, ints))
    (omega (arith, ints)) (omega (arith, ints)) c.greater-lower.ensures.one c.greater-lower.ensures.left c.lesser-upper.ensures.one c.lesser-upper.ensures.left (omega (arith, ints))
    (omega (arith, ints))).encloses
