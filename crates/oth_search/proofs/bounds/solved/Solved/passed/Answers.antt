use Rattle.std.proofs.Common.{rules}
use Rattle.oth_search.proofs.BoundsLemmas.Enclosing.{Encloses-passed}
use Rattle.oth_search.proofs.bounds.solved.Solved.passed.Goals as goal

pub invariant_of-result : goal.invariant_of-result
invariant_of-result c =
    let s = c.args.self.now in
    record {
      encloses =
          Encloses-passed s.scoring s.board _ s.interval.lower s.interval.upper _ _ c.pass.ensures c.requires.none c.requires.some s.encloses c.turned.ensures.lower
          c.turned.ensures.upper;
    }

pub returns-clause-board : goal.returns-clause-board
returns-clause-board c = search rules
