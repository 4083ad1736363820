use Rattle.std.proofs.Common.{sym, ◌∙◌, subst, arith, ◌≡◌}
use Rattle.oth_search.specs.Bounds.Entry.{Bounded, IsTrueEntry}
use Rattle.oth_search.proofs.BoundsLemmas.Entries.{closer_bounds, IsTrueEntry-narrowed, joined_same, same_board_words}
use Rattle.oth_search.proofs.bounds.entry.Entry.joined.Goals as goal

pub invariant_of-t-3 : goal.invariant_of-t-3
invariant_of-t-3 c =
    let x : Bounded = record { board = c.self.inside.board; scoring = c.self.inside.scoring; lower = c.self.inside.lower; upper = c.self.inside.upper } in
    let y : Bounded = record { board = c.given.inside.board; scoring = c.given.inside.scoring; lower = c.given.inside.lower; upper = c.given.inside.upper } in
    let own : x.board.own ≡ y.board.own = omega (arith, c.if-own.true, c.own.ensures.value, c.own-2.ensures.value) in
    let opp : x.board.opp ≡ y.board.opp = omega (arith, c.if-opp.true, c.opp.ensures.value, c.opp-then-own.ensures.value) in
    let scoring : x.scoring ≡ y.scoring = rw (← c.self.view_is, ← c.given.view_is) at c.requires in
    subst IsTrueEntry (sym (closer_bounds x y c.max.result c.min.result c.self.invariant c.given.invariant c.max.ensures.value c.min.ensures.value))
    (IsTrueEntry-narrowed x y c.self.invariant c.given.invariant (same_board_words x.board y.board own opp) scoring)

pub returns-then-opp : goal.returns-then-opp
returns-then-opp c =
    let x : Bounded = record { board = c.self.inside.board; scoring = c.self.inside.scoring; lower = c.self.inside.lower; upper = c.self.inside.upper } in
    let y : Bounded = record { board = c.given.inside.board; scoring = c.given.inside.scoring; lower = c.given.inside.lower; upper = c.given.inside.upper } in
    let own : x.board.own ≡ y.board.own = omega (arith, c.if-own.true, c.own.ensures.value, c.own-2.ensures.value) in
    let opp : x.board.opp ≡ y.board.opp = omega (arith, c.if-opp.true, c.opp.ensures.value, c.opp-then-own.ensures.value) in
    rw (← c.self.view_is, ← c.given.view_is)
    (closer_bounds x y c.max.result c.min.result c.self.invariant c.given.invariant c.max.ensures.value c.min.ensures.value ∙ joined_same x y own opp)
