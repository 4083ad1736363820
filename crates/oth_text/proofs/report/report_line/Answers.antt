use Rattle.std.proofs.Common.{◌≡◌, ◌++◌, ◌∙◌, ap}
use Rattle.oth_text.specs.Report.{report_line_of}
use Rattle.oth_text.proofs.OneLineLemmas.{report_line-one}
use Rattle.oth_text.proofs.report.report_line.Goals as goal

is_line : (c : goal.After-push_report_line) → c.push_report_line.new.line.items ≡ report_line_of c.args.answer.now.scoring c.args.answer.now.board
is_line c = c.push_report_line.ensures ∙ ap (λ xs. xs ++ report_line_of c.args.answer.now.scoring c.args.answer.now.board) c.new-line.ensures

pub returns-clause-text : goal.returns-clause-text
returns-clause-text c = is_line c

pub returns-clause-one_line : goal.returns-clause-one_line
returns-clause-one_line c = report_line-one _ c.args.answer.now.scoring c.args.answer.now.board (is_line c)
