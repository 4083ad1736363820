use Rattle.std.proofs.Common.{◌≢◌, All, subst, take_all, rules}
use Rattle.oth_c.proofs.Scored.{unlisted}
use Rattle.oth_c.proofs.scores.score_at.Goals as goal

pub returns : goal.returns
returns c = λ p g h low.
    unlisted p g c.args.moves.now c.args.number h low
    (subst (All (λ m. m.square ≢ c.args.number)) (take_all c.loop-scored.scored-index c.args.moves.now c.loop-scored-test.false) c.loop-scored.invariant)

pub returns-then-from-number : goal.returns-then-from-number
returns-then-from-number c = search rules
