use Rattle.std.proofs.Common.{◌∙◌, sym}
use Rattle.oth_text.specs.Sides.{start}
use Rattle.oth_text.proofs.AnalysisLemmas.{fault-board, fault-transcript}
use Rattle.oth_text.proofs.analysis_reader.AnalysisReader.fault.Goals as goal

pub returns-in-Ok : goal.returns-in-Ok
returns-in-Ok c = λ line kept. sym (fault-board line _ (sym (c.begins_board.ensures line kept) ∙ c.if-begins_board.true) (sym (c.read.ensures line kept.game) ∙ c.in-Ok.is))

pub returns-in-Err : goal.returns-in-Err
returns-in-Err c = λ line kept. sym (fault-board line _ (sym (c.begins_board.ensures line kept) ∙ c.if-begins_board.true) (sym (c.read.ensures line kept.game) ∙ c.in-Err.is))

pub returns-in-Ok-read : goal.returns-in-Ok-read
returns-in-Ok-read c = λ line kept.
    sym (fault-transcript line _ (sym (c.begins_board.ensures line kept) ∙ c.if-begins_board.false) (sym (c.read-2.ensures start line kept.transcript) ∙ c.in-Ok-read.is))

pub returns-in-Err-read : goal.returns-in-Err-read
returns-in-Err-read c = λ line kept.
    sym (fault-transcript line _ (sym (c.begins_board.ensures line kept) ∙ c.if-begins_board.false) (sym (c.read-2.ensures start line kept.transcript) ∙ c.in-Err-read.is))
