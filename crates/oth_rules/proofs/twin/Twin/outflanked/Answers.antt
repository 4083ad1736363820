use Rattle.std.proofs.Common.{refl}
use Rattle.oth_rules.specs.Position.{Position}
use Rattle.oth_rules.specs.Symmetry.{image}
use Rattle.oth_rules.specs.HalfTurn.{half_turned}
use Rattle.oth_rules.proofs.Canonical.{IsBoard-image}
use Rattle.oth_rules.proofs.HalfTurns.{two_lanes, same_lanes}
use Rattle.oth_rules.proofs.Twins.{half_own, half_opp}
use Rattle.oth_rules.proofs.Vectors.{masked_lane-is}
use Rattle.oth_rules.proofs.twin.Twin.outflanked.Goals as goal

pub returns : goal.returns
returns c =
    let l = two_lanes c.args.rays c.fits-rays.0 c.fits-rays.1 in
    rw (← c.self.view_is)
    (let p : Position = record { own = c.self.inside.own; opp = c.self.inside.opp } in
    rw l.are
    (rw (c.lanes.ensures, c.lanes-2.ensures)
    (same_lanes _ _ _ _
    (masked_lane-is p p.own p.opp l.first c.self.invariant refl refl l.first_fits)
    (masked_lane-is (image 3 p) (half_turned p.own) (half_turned p.opp) l.second (IsBoard-image p 3) (half_own p c.self.invariant) (half_opp p c.self.invariant) l.second_fits))))
