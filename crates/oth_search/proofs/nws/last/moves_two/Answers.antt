use Rattle.std.proofs.Common.{◌∷◌, [], arith}
use Rattle.std.proofs.lemmas.Int.{ints}
use Rattle.oth_search.proofs.NwsLemmas.Lasts as l
use Rattle.oth_search.proofs.nws.last.moves_two.Goals as goal

pub returns-then-best-alpha : goal.returns-then-best-alpha
returns-then-best-alpha c =
    let g = c.args.scoring in
    let p = c.args.board in
    let alpha = c.args.alpha in
    let a_gives = l.GivesAt-same g p c.args.a alpha _ c.reply_one-best.result (omega (arith, ints)) c.reply_one-best.ensures in
    l.MovesAt-same g p alpha _ c.reply_one-best.result (omega (arith, ints))
    (l.MovesAt-cut g p c.args.a alpha c.reply_one-best.result c.requires.threshold a_gives (omega (arith, ints, c.if-best-alpha.true)))

pub returns : goal.returns
returns c =
    let g = c.args.scoring in
    let p = c.args.board in
    let alpha = c.args.alpha in
    l.MovesAt-same g p alpha _ c.greater.result (omega (arith, ints))
    (l.MovesAt-last g p c.args.b alpha c.reply_one-best.result c.reply_one.result c.greater.result c.requires.threshold
    (l.Tried-first g p alpha c.args.a (c.args.b ∷ []) c.reply_one-best.result c.requires.last
    (l.GivesAt-same g p c.args.a alpha _ c.reply_one-best.result (omega (arith, ints)) c.reply_one-best.ensures)
    (omega (arith, ints, c.if-best-alpha.false)))
    (l.GivesAt-same g p c.args.b alpha _ c.reply_one.result (omega (arith, ints)) c.reply_one.ensures)
    (l.greater-of c.reply_one-best.result c.reply_one.result c.greater.result _ _ (omega (arith, ints)) (omega (arith, ints))
    c.greater.ensures.left c.greater.ensures.right c.greater.ensures.one))
