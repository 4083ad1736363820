use Rattle.std.proofs.Common.{◌+◌, ◌∙◌, ap}
use Rattle.oth_text.proofs.PairLemmas.{pair_moved}
use Rattle.oth_text.proofs.transcript.after_pair.Goals as goal

pub returns-in-Ok-clause-ok : goal.returns-in-Ok-clause-ok
returns-in-Ok-clause-ok c =
    let played = c.in-Ok.ensures.ok in
    (played.0, pair_moved c.args.position.now _ _ _ _ played.2 c.opponent.ensures c.with_forced_pass.ensures.passed)

pub returns-in-Ok-clause-fewer : goal.returns-in-Ok-clause-fewer
returns-in-Ok-clause-fewer c = ap (λ n. n + 1) c.with_forced_pass.ensures.empties ∙ c.in-Ok.ensures.fewer
