use Rattle.std.proofs.Common.{rules, ◌≡◌, ◌*◌, ◌/◌, ◌^◌, ◌∙◌}
use Rattle.oth_table.specs.Choices.{hash_of}
use Rattle.oth_table.proofs.Choices.{highest_bits}
use Rattle.oth_table.proofs.choice.place.Goals as goal

pub returns-clause-place : goal.returns-clause-place
returns-clause-place c =
    let same : c.from.result * c.from-2.result / 2 ^ 64 ≡ hash_of c.args.board.now * c.args.cells / 2 ^ 64 = search rules in
    same ∙ highest_bits (hash_of c.args.board.now) c.args.cells c.requires.cells
