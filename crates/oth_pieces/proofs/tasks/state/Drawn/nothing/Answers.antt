use Rattle.std.proofs.Common.{◌∙◌, ap}
use Rattle.oth_pieces.specs.declared.tasks.state.Drawn.{Drawn}
use Rattle.oth_pieces.specs.Drawn.{left_of}
use Rattle.oth_pieces.proofs.Closings.{all_left}
use Rattle.oth_pieces.proofs.tasks.state.Drawn.nothing.Goals as goal

pub returns-clause-once : goal.returns-clause-once
returns-clause-once c =
    let drawn : Drawn = record { lists = c.new-lists.result; left = c.left_of-left.result } in
    all_left c.args.count drawn c.new-lists.ensures.items (c.left_of-left.ensures ∙ ap (left_of c.args.count) c.as_slice.ensures.value)
