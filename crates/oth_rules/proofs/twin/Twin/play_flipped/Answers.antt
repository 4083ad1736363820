use Rattle.std.proofs.Common.{◌≡◌, ◌<◌, ◌^◌, sym, ◌∙◌, subst, refl, arith}
use Rattle.std.proofs.lemmas.Nat.{pow_below}
use Rattle.oth_rules.specs.Position.{Position, IsBoard}
use Rattle.oth_rules.specs.Move.{after}
use Rattle.oth_rules.proofs.Positions.{positions}
use Rattle.oth_rules.proofs.Twins.{twin_square, twin_with, twin_without}
use Rattle.oth_rules.proofs.Words.{played_inside, IsBoard-after, word_fits}
use Rattle.oth_rules.proofs.twin.Twin.play_flipped.Goals as goal
use Rattle.oth_rules.proofs.twin.Twin.play_flipped.Goals.{After-of_lanes-2}

pub of_lanes-requires : goal.of_lanes-requires
of_lanes-requires c =
    rw (c.lanes.ensures, c.lanes-2.ensures)
    (twin_without c.self.inside.opp c.args.flips (word_fits c.args.flips _ c.requires.flips))

pub of_lanes-requires-2 : goal.of_lanes-requires-2
of_lanes-requires-2 c =
    let l : c.args.square < 64 = omega (arith, c.number.ensures.below, c.number.ensures.value) in
    rw (c.lanes-3.ensures, c.lanes-4.ensures)
    (rw c.number.ensures.value
    (rw (twin_square c.args.square l)
    (twin_with c.self.inside.own c.args.flips (2 ^ c.args.square) c.self.invariant.own_fits (word_fits c.args.flips _ c.requires.flips) (pow_below c.args.square 64 l))))

played : (c : After-of_lanes-2) → ◌≡◌ {A = Position} (record { own = c.of_lanes.result; opp = c.of_lanes-2.result }) (after c.args.self c.args.square)
played c =
    let l : c.args.square < 64 = omega (arith, c.number.ensures.below, c.number.ensures.value) in
    let own = rw (c.lanes.ensures, c.lanes-2.ensures) at c.of_lanes.ensures in
    let joined = rw (c.lanes-3.ensures, c.lanes-4.ensures) at c.of_lanes-2.ensures in
    let numbered = rw c.number.ensures.value at joined in
    let opp = rw (twin_square c.args.square l) at numbered in
    positions _ _ _ _ own opp
    ∙ played_inside c.self.inside.own c.self.inside.opp c.args.self c.args.square (2 ^ c.args.square) c.args.flips c.self.view_is c.self.invariant l refl c.requires.flips c.requires.legal

pub invariant_of-result : goal.invariant_of-result
invariant_of-result c = subst IsBoard (sym (played c)) (IsBoard-after c.args.self c.args.square)

pub returns : goal.returns
returns c = played c
