use Rattle.oth_text.proofs.ReadingLemmas.{solvable_is, solvable_line_iff, solvable_fault_iff}
use Rattle.oth_text.proofs.board_line.read_solvable.Goals as goal

pub returns-clause-reading : goal.returns-clause-reading
returns-clause-reading c = solvable_is _ _ _ c.read_board.ensures.reading c.if_solvable.ensures.reading

pub returns-clause-line : goal.returns-clause-line
returns-clause-line c = rw (c.if_solvable.ensures.reading) (solvable_line_iff _ _ c.read_board.ensures.line)

pub returns-clause-fault : goal.returns-clause-fault
returns-clause-fault c = rw (c.if_solvable.ensures.reading) (solvable_fault_iff _ _ c.read_board.ensures.line c.read_board.ensures.fault)
