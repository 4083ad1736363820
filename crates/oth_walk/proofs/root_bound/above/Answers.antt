use Rattle.std.proofs.Common.{◌≡◌, ℤ, ◌≤ℤ◌, pos, arith, w8}
use Rattle.std.proofs.lemmas.Int.{ints, to_z-of_z}
use Rattle.oth_rules.proofs.Scores.{value_bounds}
use Rattle.oth_rules.specs.declared.scoring.Scoring.{Scoring}
use Rattle.oth_rules.specs.Position.{Position}
use Rattle.oth_rules.specs.Score.{score_of}
use Rattle.oth_rules.specs.Value.{value}
use Rattle.oth_search.specs.Bounds.Interval.{Encloses}
use Rattle.oth_walk.proofs.root_bound.above.Goals as goal

-- a true floor bounds the value from below, and no value is above 64
encloses : (g h : Scoring) (p q : Position) (low least : ℤ) → g ≡ h → p ≡ q → low ≡ least → least ≤ℤ value (score_of h) q → Encloses low (pos 64) (value (score_of g) p)
encloses g h p q low least by of same floor = record { below = rw (by, of, same) floor; above = (value_bounds g p).high }

pub of-requires : goal.of-requires
of-requires c =
    let floor = c.read-lower.ensures in
    let same = to_z-of_z w8 c.read-lower.result (record { sfits = omega (arith, ints, floor.low, floor.high) }) in
    encloses _ _ _ _ _ _ c.scoring.ensures c.board-root.ensures same floor.bound
