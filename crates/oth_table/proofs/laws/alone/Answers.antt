use Rattle.oth_table.proofs.Alones.{begins_alone, looks_alone, puts_alone, counts_alone, searches_alone, stores_alone}
use Rattle.oth_table.proofs.laws.alone.Goals as goal

pub returns-clause-looks : goal.returns-clause-looks
returns-clause-looks c = looks_alone

pub returns-clause-puts : goal.returns-clause-puts
returns-clause-puts c = puts_alone

pub returns-clause-begins : goal.returns-clause-begins
returns-clause-begins c = begins_alone

pub returns-clause-counts : goal.returns-clause-counts
returns-clause-counts c = counts_alone

pub returns-clause-searches : goal.returns-clause-searches
returns-clause-searches c = searches_alone

pub returns-clause-stores : goal.returns-clause-stores
returns-clause-stores c = stores_alone
