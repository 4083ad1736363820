use Rattle.std.proofs.Common.{◌≡◌, List, ap, length, arith}
use Rattle.std.specs.List.{flat_map}
use Rattle.oth_pieces.specs.declared.frontier.item.Item.{Item}
use Rattle.oth_pieces.specs.Frontier.{below}
use Rattle.oth_pieces.proofs.Belows.{room_below}
use Rattle.oth_pieces.proofs.frontier.second_ply.Goals as goal

pub push_below-requires : goal.push_below-requires
push_below-requires c =
    let room = room_below c.args.first.now c.loop-item.item-index c.item-item.result c.loop-item-test.true c.item-item.is in
    omega (arith, ap length c.loop-item.invariant)
