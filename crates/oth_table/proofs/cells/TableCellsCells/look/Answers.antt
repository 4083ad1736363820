use Rattle.std.proofs.Common.{rules, ◌≡◌, sym, subst}
use Rattle.std.specs.Prelude.{Option}
use Rattle.std.specs.Option.{option_or}
use Rattle.oth_rules.specs.declared.scoring.Scoring.{Scoring}
use Rattle.oth_search.specs.Bounds.Entry.{Bounded}
use Rattle.oth_table.specs.Choices.{entry_in}
use Rattle.oth_table.proofs.Found.{asked, IsAsked}
use Rattle.oth_table.proofs.cells.TableCellsCells.look.Goals as goal

pub returns-clause-asked : goal.returns-clause-asked
returns-clause-asked c =
    let g = c.args.self.now.table.terms.scoring in let p = c.args.board.now in
    let first = c.look_both-first.result.0 in let other = c.look_both-first.result.1 in
    let same : g ≡ c.args.scoring = search rules in
    let found : c.or.result ≡ option_or (entry_in first p) (entry_in other p) = search rules in
    subst (λ (z : Option Bounded × Scoring). IsAsked z.1 p z.0) (λ i. (sym found i, same i)) (asked g p first other c.look_both-first.ensures.first c.look_both-first.ensures.other)

pub returns-clause-looks : goal.returns-clause-looks
returns-clause-looks c = search rules
