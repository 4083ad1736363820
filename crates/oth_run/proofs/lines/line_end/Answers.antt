use Rattle.oth_run.proofs.EndLemmas.{ends}
use Rattle.oth_run.proofs.lines.line_end.Goals as goal

pub returns-clause-within : goal.returns-clause-within
returns-clause-within c = (ends c.args.bytes.now c.memchr.result c.memchr.ensures).0

pub returns-clause-end : goal.returns-clause-end
returns-clause-end c = (ends c.args.bytes.now c.memchr.result c.memchr.ensures).1

pub returns-clause-before : goal.returns-clause-before
returns-clause-before c = (ends c.args.bytes.now c.memchr.result c.memchr.ensures).2

pub returns-clause-none : goal.returns-clause-none
returns-clause-none c = (ends c.args.bytes.now c.memchr.result c.memchr.ensures).3
