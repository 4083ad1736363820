use Rattle.oth_text.specs.Sides.{start}
use Rattle.oth_text.proofs.analysis_reader.AnalysisReader.is_empty.Goals as goal

pub returns : goal.returns
returns c = λ line kept. c.is_empty.ensures start line kept.transcript
