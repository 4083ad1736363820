use Rattle.std.proofs.Common.{refl}
use Rattle.oth_rules.proofs.HalfTurns.{two_lanes}
use Rattle.oth_rules.proofs.Twins.{twins_of_parts}
use Rattle.oth_rules.proofs.twin.TwinWord.joined.Goals as goal

pub of_lanes-requires : goal.of_lanes-requires
of_lanes-requires c =
    let l = two_lanes c.args.lanes c.fits-lanes.0 c.fits-lanes.1 in
    rw c.turned.ensures
    (rw l.are
    (twins_of_parts l.first l.second l.first_fits l.second_fits))

pub returns : goal.returns
returns c =
    let l = two_lanes c.args.lanes c.fits-lanes.0 c.fits-lanes.1 in
    rw c.of_lanes.ensures
    (rw c.turned.ensures
    (rw l.are refl))
