use Rattle.std.proofs.Common.{ap, ◌∙◌, subst}
use Rattle.oth_table.specs.Choices.{picked_of}
use Rattle.oth_table.specs.Pairs.{LooksBoth}
use Rattle.oth_table.specs.Parts.{Fixed}
use Rattle.oth_table.proofs.Found.{puts_at}
use Rattle.oth_table.proofs.cells.TableCells.put_own.Goals as goal

pub returns-clause-put : goal.returns-clause-put
returns-clause-put c =
    let u = c.args.self.now in let v = c.look_both-first.new.self in
    let first = c.look_both-first.result.0 in let other = c.look_both-first.result.1 in
    let fixed = c.look_both-first.ensures.fixed in let board = c.board-board.ensures in
    let cells = c.count.ensures.count ∙ ap (λ (f : Fixed). f.table.cells) fixed in
    record {
      first = first;
      other = other;
      between = v.seat.seen;
      looks = subst (λ p. LooksBoth u v.seat.seen p first other) board c.look_both-first.ensures.looks;
      did = c.put_at.result;
      put = puts_at u v _ _ _ _ _ _ fixed (c.picked-cell.ensures.cell ∙ (λ i. picked_of (cells i) first other (board i))) c.put_at.ensures.put;
    }
