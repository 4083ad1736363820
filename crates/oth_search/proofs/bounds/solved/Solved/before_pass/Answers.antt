use Rattle.std.proofs.Common.{rules}
use Rattle.oth_search.proofs.BoundsLemmas.Enclosing.{Encloses-pass}
use Rattle.oth_search.proofs.bounds.solved.Solved.before_pass.Goals as goal

pub invariant_of-result : goal.invariant_of-result
invariant_of-result c =
    let s = c.args.self.now in
    record {
      encloses =
          Encloses-pass s.scoring c.args.board.now s.board s.interval.lower s.interval.upper _ _ c.requires.passed c.requires.none c.requires.some s.encloses
          c.turned-interval.ensures.lower c.turned-interval.ensures.upper;
    }

pub returns-clause-lower : goal.returns-clause-lower
returns-clause-lower c = search rules
