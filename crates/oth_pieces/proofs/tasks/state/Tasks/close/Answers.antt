use Rattle.std.proofs.Common.{◌∙◌, ap}
use Rattle.oth_pieces.specs.declared.tasks.state.Drawn.{Drawn}
use Rattle.oth_pieces.specs.Drawn.{left_of}
use Rattle.oth_pieces.proofs.Closings.{closes, closed, lists_same}
use Rattle.oth_pieces.proofs.tasks.state.Tasks.close.Goals as goal

pub balance-requires : goal.balance-requires
balance-requires c =
    let parts = c.parts_of-owners.ensures in
    closes c.args.self c.args.hands.items _ c.as_mut_slice.result.now c.requires parts.owners (c.as_mut_slice.ensures.value ∙ parts.piles)

pub returns-clause-lists : goal.returns-clause-lists
returns-clause-lists c =
    let drawn : Drawn = record { lists = c.parts_of-owners.result.lists; left = c.left_of-left.result } in
    lists_same c.args.hands.items drawn c.parts_of-owners.ensures.lists

pub returns-clause-once : goal.returns-clause-once
returns-clause-once c =
    let parts = c.parts_of-owners.ensures in
    let drawn : Drawn = record { lists = c.parts_of-owners.result.lists; left = c.left_of-left.result } in
    closed c.args.self c.args.hands.items _ c.as_mut_slice.result.now drawn c.requires parts.owners (c.as_mut_slice.ensures.value ∙ parts.piles) c.balance.ensures parts.lists
    (c.left_of-left.ensures ∙ ap (left_of c.args.self.count) c.as_slice.ensures.value)
