use Rattle.oth_text.proofs.ReportLemmas.{moves_line_is}
use Rattle.oth_text.proofs.OneLineLemmas.{moves_line-one}
use Rattle.oth_text.proofs.report.moves_line.Goals as goal

pub returns-clause-text : goal.returns-clause-text
returns-clause-text c = moves_line_is _ _ _ _ _ c.new-line.ensures c.of.ensures c.moves.ensures c.push_moves.ensures

pub returns-clause-one_line : goal.returns-clause-one_line
returns-clause-one_line c = moves_line-one _ c.args.board.now (moves_line_is _ _ _ _ _ c.new-line.ensures c.of.ensures c.moves.ensures c.push_moves.ensures)
