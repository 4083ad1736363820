use Rattle.std.proofs.Common.{rules, arith, ◌≡◌, ◌≤ℤ◌, ap, ◌∙◌}
use Rattle.std.proofs.lemmas.Int.{ints}
use Rattle.oth_pieces.specs.declared.floor.root.Root.{Root}
use Rattle.oth_pieces.specs.History.{floor_after, root_value}
use Rattle.oth_pieces.specs.Watch.{Watcher}
use Rattle.oth_pieces.proofs.Floors.{looks, low_enough}
use Rattle.oth_pieces.proofs.floor.Floor.read.Goals as goal

pub load-found-requires : goal.load-found-requires
load-found-requires c = (search rules, search rules, looks _ _ _ _ _ c.seat.invariant.0)

pub returns-clause-bound : goal.returns-clause-bound
returns-clause-bound c =
    let told = c.load-found.ensures.2 in
    let own : Root = c.seat.inside.seat.me.0.root in
    let same : own ≡ c.args.self.now.root = ap (λ (w : Watcher). w.root) c.seat.view_is ∙ c.requires.1 in
    let low : floor_after c.load-found.new.seat.me.0.seen ≤ℤ root_value c.args.self.now.root = low_enough own c.args.self.now.root _ told.0.legal same in
    let is = told.2 in
    let small = told.3 in
    omega (arith, ints)

pub returns-clause-floor : goal.returns-clause-floor
returns-clause-floor c = search rules
