use Rattle.std.proofs.Common.{◌∙◌, sym}
use Rattle.oth_text.proofs.AnalysisLemmas.{told-board, told-faulty, told-transcript}
use Rattle.oth_text.proofs.analysis_reader.AnalysisReader.turns.Goals as goal

pub returns-then-not-begins_board-clause-turns : goal.returns-then-not-begins_board-clause-turns
returns-then-not-begins_board-clause-turns c = λ line kept.
    told-transcript c.args.last _ line _ _ (c.as_slice-front.ensures.value ∙ kept.front)
    (sym (c.begins_board.ensures line kept) ∙ c.if-not-begins_board.true) c.start.ensures c.turns_told.ensures.turns

pub returns-in-Ok-clause-turns : goal.returns-in-Ok-clause-turns
returns-in-Ok-clause-turns c = λ line kept.
    c.turns_told-in-Ok.ensures.turns
    ∙ told-board c.args.last _ line _ _ c.in-Ok.position (c.as_slice-front.ensures.value ∙ kept.front) (sym (c.begins_board.ensures line kept) ∙ c.if-not-begins_board.false)
    c.parts.ensures.board c.parts.ensures.moves (sym c.read_board.ensures.reading ∙ c.in-Ok.is)

pub returns-in-Err-clause-turns : goal.returns-in-Err-clause-turns
returns-in-Err-clause-turns c = λ line kept.
    c.new.ensures
    ∙ told-faulty c.args.last _ line _ c.in-Err.field-0 (c.as_slice-front.ensures.value ∙ kept.front) (sym (c.begins_board.ensures line kept) ∙ c.if-not-begins_board.false)
    c.parts.ensures.board (sym c.read_board.ensures.reading ∙ c.in-Err.is)
