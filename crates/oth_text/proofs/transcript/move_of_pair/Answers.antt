use Rattle.std.proofs.Common.{sym, rules}
use Rattle.oth_text.proofs.PairLemmas.{fewer_empties, legal_pair}
use Rattle.oth_text.proofs.transcript.move_of_pair.Goals as goal

pub returns-in-Some-play-clause-ok : goal.returns-in-Some-play-clause-ok
returns-in-Some-play-clause-ok c =
    let named = c.in-Some.ensures in
    let moved = c.in-Some-play.ensures.moved in
    legal_pair c.args.k c.args.position.now _ c.args.letter c.args.digit c.in-Some.square named.0 named.1 (sym c.if-is_over.ensures) moved.0 moved.1

pub returns-in-Some-play-clause-fewer : goal.returns-in-Some-play-clause-fewer
returns-in-Some-play-clause-fewer c =
    let moved = c.in-Some-play.ensures.moved in
    fewer_empties c.args.position.now.board _ c.in-Some.square c.in-Some-play.ensures.valid moved.0 moved.1

pub returns-then-is_over-clause-err : goal.returns-then-is_over-clause-err
returns-then-is_over-clause-err c = search rules
