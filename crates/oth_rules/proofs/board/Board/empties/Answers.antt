use Rattle.std.proofs.Common.{arith}
use Rattle.oth_rules.proofs.Counts.{counts}
use Rattle.oth_rules.proofs.Scores.{empties_word}
use Rattle.oth_rules.proofs.board.Board.empties.Goals as goal

pub returns-clause-value : goal.returns-clause-value
returns-clause-value c = empties_word c.args.self.now c.empty_squares.result c.empty_squares.ensures

pub returns-clause-most : goal.returns-clause-most
returns-clause-most c = omega (arith, counts c.args.self.now, empties_word c.args.self.now c.empty_squares.result c.empty_squares.ensures)
