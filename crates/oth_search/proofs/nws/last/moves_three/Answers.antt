use Rattle.std.proofs.Common.{◌∷◌, [], arith}
use Rattle.std.proofs.lemmas.Int.{ints}
use Rattle.oth_search.proofs.NwsLemmas.Lasts as l
use Rattle.oth_search.proofs.nws.last.moves_three.Goals as goal

pub returns-then-best-alpha : goal.returns-then-best-alpha
returns-then-best-alpha c =
    let g = c.args.scoring in
    let p = c.args.board in
    let alpha = c.args.alpha in
    let a_gives = l.GivesAt-same g p c.args.a alpha _ c.reply_two-best.result (omega (arith, ints)) c.reply_two-best.ensures in
    l.MovesAt-same g p alpha _ c.reply_two-best.result (omega (arith, ints))
    (l.MovesAt-cut g p c.args.a alpha c.reply_two-best.result c.requires.threshold a_gives (omega (arith, ints, c.if-best-alpha.true)))

pub returns-then-best-alpha-2 : goal.returns-then-best-alpha-2
returns-then-best-alpha-2 c =
    let g = c.args.scoring in
    let p = c.args.board in
    let alpha = c.args.alpha in
    l.MovesAt-same g p alpha _ c.greater-best.result (omega (arith, ints))
    (l.MovesAt-later g p c.args.b (c.args.b ∷ c.args.c ∷ []) alpha c.reply_two-best.result c.reply_two.result c.greater-best.result
    c.requires.threshold
    (l.Tried-first g p alpha c.args.a (c.args.b ∷ c.args.c ∷ []) c.reply_two-best.result c.requires.last
    (l.GivesAt-same g p c.args.a alpha _ c.reply_two-best.result (omega (arith, ints)) c.reply_two-best.ensures)
    (omega (arith, ints, c.if-best-alpha.false)))
    (l.GivesAt-same g p c.args.b alpha _ c.reply_two.result (omega (arith, ints)) c.reply_two.ensures)
    (l.greater-of c.reply_two-best.result c.reply_two.result c.greater-best.result _ _ (omega (arith, ints)) (omega (arith, ints))
    c.greater-best.ensures.left c.greater-best.ensures.right c.greater-best.ensures.one)
    (omega (arith, ints, c.if-best-alpha-2.true)))

pub returns : goal.returns
returns c =
    let g = c.args.scoring in
    let p = c.args.board in
    let alpha = c.args.alpha in
    l.MovesAt-same g p alpha _ c.greater.result (omega (arith, ints))
    (l.MovesAt-last g p c.args.c alpha c.greater-best.result c.reply_two-2.result c.greater.result c.requires.threshold
    (l.Tried-next g p alpha c.args.b (c.args.c ∷ []) c.reply_two-best.result c.reply_two.result c.greater-best.result
    (l.Tried-first g p alpha c.args.a (c.args.b ∷ c.args.c ∷ []) c.reply_two-best.result c.requires.last
    (l.GivesAt-same g p c.args.a alpha _ c.reply_two-best.result (omega (arith, ints)) c.reply_two-best.ensures)
    (omega (arith, ints, c.if-best-alpha.false)))
    (l.GivesAt-same g p c.args.b alpha _ c.reply_two.result (omega (arith, ints)) c.reply_two.ensures)
    (l.greater-of c.reply_two-best.result c.reply_two.result c.greater-best.result _ _ (omega (arith, ints))
    (omega (arith, ints)) c.greater-best.ensures.left c.greater-best.ensures.right c.greater-best.ensures.one)
    (omega (arith, ints, c.if-best-alpha-2.false)))
    (l.GivesAt-same g p c.args.c alpha _ c.reply_two-2.result (omega (arith, ints)) c.reply_two-2.ensures)
    (l.greater-of c.greater-best.result c.reply_two-2.result c.greater.result _ _ (omega (arith, ints)) (omega (arith, ints))
    c.greater.ensures.left c.greater.ensures.right c.greater.ensures.one))

pub reply_two-requires-2-clause-last : goal.reply_two-requires-2-clause-last
reply_two-requires-2-clause-last c = l.Leaves-third c.args.board c.args.a c.args.b c.args.c [] c.requires.last
