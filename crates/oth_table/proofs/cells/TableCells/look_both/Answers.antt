use Rattle.std.proofs.Common.{ap, ◌∙◌}
use Rattle.oth_table.specs.Choices.{place_of, second_of}
use Rattle.oth_table.specs.Parts.{fixed_of}
use Rattle.oth_table.proofs.Found.{looks_at}
use Rattle.oth_table.proofs.cells.TableCells.look_both.Goals as goal

pub returns-clause-looks : goal.returns-clause-looks
returns-clause-looks c =
    let u = c.args.self.now in let v = c.look_at-first.new.self in let p = c.args.board.now in let count = c.count-cells.ensures.count in (
      λ one. absurd (c.if-cells-eq1.false (count ∙ one)),
      λ _. (
        v.seat.seen,
        looks_at u u _ _ _ _ _ (λ i. fixed_of u) (c.place.ensures.place ∙ ap (place_of p) count) c.look_at-first.ensures.look,
        looks_at u v _ _ _ _ _ c.look_at-first.ensures.fixed (c.second.ensures.place ∙ ap (second_of p) count) c.look_at-other.ensures.look,
      ),
    )
