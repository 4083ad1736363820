use Rattle.std.proofs.Common.{arith, refl}
use Rattle.std.specs.Prelude.{slice_index_or}
use Rattle.oth_rules.specs.Position.{Position}
use Rattle.oth_rules.specs.Symmetry.{image}
use Rattle.oth_rules.specs.HalfTurn.{half_turned}
use Rattle.oth_rules.proofs.Canonical.{IsBoard-image}
use Rattle.oth_rules.proofs.HalfTurns.{lanes_of}
use Rattle.oth_rules.proofs.Twins.{half_own, half_opp, falling_lane, moves_of_parts}
use Rattle.oth_rules.proofs.Words.{empty_word}
use Rattle.oth_rules.proofs.twin.Twin.moves.Goals as goal

pub returns : goal.returns
returns c =
    rw (← c.self.view_is)
    (let p : Position = record { own = c.self.inside.own; opp = c.self.inside.opp } in
    let past = rw (c.lanes-own.ensures, c.lanes-opp.ensures) at c.past.ensures.past in
    let past-2 = rw (c.lanes-own.ensures, c.lanes-opp.ensures) at c.past-2.ensures.past in
    let past-3 = rw (c.lanes-own.ensures, c.lanes-opp.ensures) at c.past-3.ensures.past in
    rw c.turned.ensures
    (rw (lanes_of c.past.result c.past.ensures.two, lanes_of c.past-2.result c.past-2.ensures.two, lanes_of c.past-3.result c.past-3.ensures.two)
    (rw (c.lanes-own.ensures, c.lanes-opp.ensures)
    (moves_of_parts p _ _ _
    (falling_lane p p.own p.opp (slice_index_or c.past.result 0 0) (slice_index_or c.past-2.result 0 0) (slice_index_or c.past-3.result 0 0) c.self.invariant refl refl
    (λ d along. past d 0 (omega arith) along) (λ d along. past-2 d 0 (omega arith) along) (λ d along. past-3 d 0 (omega arith) along))
    (falling_lane (image 3 p) (half_turned p.own) (half_turned p.opp) (slice_index_or c.past.result 1 0) (slice_index_or c.past-2.result 1 0) (slice_index_or c.past-3.result 1 0)
    (IsBoard-image p 3) (half_own p c.self.invariant) (half_opp p c.self.invariant)
    (λ d along. past d 1 (omega arith) along) (λ d along. past-2 d 1 (omega arith) along) (λ d along. past-3 d 1 (omega arith) along))
    (empty_word p c.self.invariant)))))
