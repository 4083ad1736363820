use Rattle.std.proofs.Common.{rules, arith, sym, ◌∙◌, ◌≡◌, true, false}
use Rattle.std.proofs.lemmas.Int.{ints, by_lt_z}
use Rattle.std.proofs.lemmas.Bool.{false≢true}
use Rattle.oth_search.proofs.bounds.interval.Interval.decides.Goals as goal
use Rattle.oth_search.proofs.bounds.interval.Interval.decides.Goals.{then-is_exact, else-is_exact}

pub returns-else-self-beta-clause-decided : goal.returns-else-self-beta-clause-decided
returns-else-self-beta-clause-decided c = search rules

pub returns-else-self-beta-clause-open : goal.returns-else-self-beta-clause-open
returns-else-self-beta-clause-open c above =
    let bounds = c.args.self in
    elim c.if-is_exact.branch [
      | then-is_exact w ↦ absurd (false≢true (sym c.if-self-beta.false ∙ w.value-is ∙ w.if-is_exact.true))
      | else-is_exact w ↦ record {
        wide = by_lt_z bounds.lower bounds.upper
            (λ h. h)
            (λ h. let no : false ≡ true = w.if-is_exact.ensures.1 (omega (arith, ints, h, bounds.is_interval.ordered)) in cc);
        below = omega (arith, ints, sym w.value-is ∙ c.if-self-beta.false);
        above = omega (arith, ints, above);
      }
    ]
