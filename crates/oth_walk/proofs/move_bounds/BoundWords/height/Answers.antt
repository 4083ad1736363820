use Rattle.std.proofs.Common.{rules, arith, ◌∙◌, sym, ◌≡◌}
use Rattle.std.proofs.lemmas.Int.{ints}
use Rattle.oth_walk.proofs.Truths.{looks, limits}
use Rattle.oth_walk.proofs.move_bounds.BoundWords.height.Goals as goal

pub load-height-requires : goal.load-height-requires
load-height-requires c =
    let root : c.args.self.now.bounds.now.root ≡ c.args.self.now.bounds.now.table.shared.key = sym c.args.self.now.bounds.now.key in
    (search rules, search rules, looks _ _ _ _ _ _ (c.args.self.now.sits.1 ∙ root))

pub number_at-requires : goal.number_at-requires
number_at-requires c =
    let told = c.load-height.ensures.2.1 in
    let most = (limits c.args.self.now.seat.me.0 c.args.word).high in
    omega (arith, ints)
