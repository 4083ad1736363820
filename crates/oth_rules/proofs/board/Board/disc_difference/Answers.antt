use Rattle.std.proofs.Common.{◌∙◌, ap, pos, ◌-ℤ◌}
use Rattle.std.specs.Prelude.{count_ones}
use Rattle.oth_rules.specs.Position.{Position, mine_count}
use Rattle.oth_rules.specs.Score.{disc_difference}
use Rattle.oth_rules.proofs.Scores.{own_count, opp_count, counts_of, computed_discs}
use Rattle.oth_rules.proofs.board.Board.disc_difference.Goals as goal

pub returns : goal.returns
unfolding disc_difference
returns c =
    let p : Position = record { own = c.self.inside.own; opp = c.self.inside.opp } in
    let m = count_ones c.self.inside.own in
    let t = count_ones c.self.inside.opp in
    rw (← c.self.view_is)
    (computed_discs m t (counts_of p c.self.invariant)
    ∙ ap (λ x. pos x -ℤ pos t) (own_count p c.self.invariant)
    ∙ ap (λ y. pos (mine_count p) -ℤ pos y) (opp_count p c.self.invariant))
