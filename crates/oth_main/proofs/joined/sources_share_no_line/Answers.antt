use Rattle.oth_main.proofs.ApartLemmas.{apart, reports}
use Rattle.oth_main.proofs.joined.sources_share_no_line.Goals as goal

pub returns-clause-lines : goal.returns-clause-lines
returns-clause-lines c = apart

pub returns-clause-report : goal.returns-clause-report
returns-clause-report c = reports
