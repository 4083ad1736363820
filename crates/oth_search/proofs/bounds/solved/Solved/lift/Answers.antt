use Rattle.std.proofs.Common.{◌≡◌, ◌∙◌, arith, rules}
use Rattle.std.proofs.lemmas.Int.{ints}
use Rattle.oth_rules.specs.Laws.{IsLegal}
use Rattle.oth_search.proofs.BoundsLemmas.Enclosing.{Encloses-lift}
use Rattle.oth_search.proofs.bounds.solved.Solved.lift.Goals as goal

pub invariant_of-result-in-Some : goal.invariant_of-result-in-Some
invariant_of-result-in-Some c =
    let s = c.args.solved.now in
    let legal : IsLegal c.args.root.now c.args.square = record { on_board = c.play.ensures.valid; legal = c.in-Some.ensures.moved.0 } in
    let same : s.board ≡ c.in-Some.child = search rules in
    record {
      encloses =
          Encloses-lift s.scoring c.args.root.now s.board c.args.square _ s.interval.upper _ _ legal (same ∙ c.in-Some.ensures.moved.1) s.encloses (omega (arith, ints))
          (omega (arith, ints));
    }

pub returns-in-Some-clause-child : goal.returns-in-Some-clause-child
returns-in-Some-clause-child c = search rules
