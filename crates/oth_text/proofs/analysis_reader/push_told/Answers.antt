use Rattle.std.proofs.Common.{◌∙◌, ◌++◌, ap, false, sym, append-nil}
use Rattle.std.proofs.Common.{◌≡◌}
use Rattle.oth_text.specs.Analysis.{is_told}
use Rattle.oth_text.proofs.AnalysisLemmas.{told-many, told-none, told-one, told-yes}
use Rattle.oth_text.proofs.analysis_reader.push_told.Goals as goal
use Rattle.oth_text.proofs.analysis_reader.push_told.Goals.{else-empties-last-via-then-empties-last+else-empties-le-MOST_EMPTIES, else-empties-last-via-else-empties-last}

pub returns-then-empties-le-MOST_EMPTIES-clause-told : goal.returns-then-empties-le-MOST_EMPTIES-clause-told
returns-then-empties-le-MOST_EMPTIES-clause-told c =
    let few = rw c.empties-empties.ensures.value at c.if-empties-last.true in
    let most = rw c.empties-empties.ensures.value at c.if-empties-le-MOST_EMPTIES.true in
    c.push.ensures.items ∙ ap (λ ts. c.args.told.now.items ++ ts) (sym (told-one c.args.last c.args.turn _ (told-yes c.args.last c.args.turn few most)))

pub returns-else-empties-last-clause-told : goal.returns-else-empties-last-clause-told
returns-else-empties-last-clause-told c =
    let none : is_told c.args.last c.args.turn ≡ false = elim c.else-empties-last.branch [
      | else-empties-last-via-then-empties-last+else-empties-le-MOST_EMPTIES w ↦ told-none c.args.last c.args.turn (rw c.empties-empties.ensures.value at w.if-empties-le-MOST_EMPTIES.false)
      | else-empties-last-via-else-empties-last w ↦ told-many c.args.last c.args.turn (rw c.empties-empties.ensures.value at w.if-empties-last.false)
    ] in
    sym (ap (λ ts. c.args.told.now.items ++ ts) (told-one c.args.last c.args.turn _ none) ∙ append-nil c.args.told.now.items)
