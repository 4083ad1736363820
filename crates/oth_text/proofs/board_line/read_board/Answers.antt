use Rattle.oth_text.proofs.ReadingLemmas.{reading_is, line_iff, fault_iff}
use Rattle.oth_text.proofs.board_line.read_board.Goals as goal

pub returns-clause-reading : goal.returns-clause-reading
returns-clause-reading c = reading_is _ _ c.parsed.ensures.line c.parsed.ensures.fault

pub returns-clause-line : goal.returns-clause-line
returns-clause-line c = line_iff _ _ c.parsed.ensures.line c.parsed.ensures.fault

pub returns-clause-fault : goal.returns-clause-fault
returns-clause-fault c = fault_iff _ _ c.parsed.ensures.line c.parsed.ensures.fault
