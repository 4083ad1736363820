use Rattle.std.specs.Prelude.{bit_or}
use Rattle.oth_rules.specs.Line.{outflanks}
use Rattle.oth_rules.proofs.Words.{legal_word}
use Rattle.oth_rules.proofs.Table.{senses_word}
use Rattle.oth_rules.proofs.board.Board.moves.Goals as goal

pub returns : goal.returns
returns c =
    legal_word c.args.self.now (bit_or c.outflanking_upwards.result c.outflanking_downwards.result) c.empty_squares.result
    (senses_word (λ d s. outflanks c.args.self.now s d) c.outflanking_upwards.result c.outflanking_downwards.result c.outflanking_upwards.ensures c.outflanking_downwards.ensures)
    c.empty_squares.ensures
