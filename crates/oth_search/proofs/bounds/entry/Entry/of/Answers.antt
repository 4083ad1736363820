use Rattle.std.proofs.Common.{arith, rules}
use Rattle.std.proofs.lemmas.Int.{ints}
use Rattle.oth_search.proofs.BoundsLemmas.Entries.{IsTrueEntry-of}
use Rattle.oth_search.proofs.bounds.entry.Entry.of.Goals as goal

pub invariant_of-result : goal.invariant_of-result
invariant_of-result c =
    let s = c.args.solved.now in
    IsTrueEntry-of s.scoring s.board c.canonical.result.0 s.interval.lower s.interval.upper _ _ c.canonical.ensures.board s.interval.is_interval s.encloses
    (omega (arith, ints)) (omega (arith, ints))

pub returns-clause-board : goal.returns-clause-board
returns-clause-board c = search rules
