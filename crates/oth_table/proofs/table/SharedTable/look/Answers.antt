use Rattle.std.proofs.Common.{ap, ◌∙◌, subst, rules}
use Rattle.oth_table.specs.SharedTable.{IsFoundBy}
use Rattle.oth_table.specs.Parts.{Sitting}
use Rattle.oth_table.specs.declared.history.Terms.{Terms}
use Rattle.oth_table.proofs.Found.{found_by}
use Rattle.oth_table.proofs.table.SharedTable.look.Goals as goal

pub returns-clause-scoring : goal.returns-clause-scoring
returns-clause-scoring c =
    let same = ap (λ (s : Sitting). s.terms.scoring) c.seat.view_is ∙ ap (λ (t : Terms). t.scoring) c.requires.seat.1 in
    subst (λ g. IsFoundBy g c.look_by.result) same (found_by _ _ _ _ _ _ c.look_by.ensures.place)

pub returns-clause-place : goal.returns-clause-place
returns-clause-place c = search rules
