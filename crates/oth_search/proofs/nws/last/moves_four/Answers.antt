use Rattle.std.proofs.Common.{◌∷◌, [], arith, w8}
use Rattle.std.proofs.lemmas.Int.{ints, to_z-of_z}
use Rattle.oth_search.proofs.NwsLemmas.Lasts as l
use Rattle.oth_search.proofs.nws.last.moves_four.Goals as goal

pub returns-then-best-alpha : goal.returns-then-best-alpha
returns-then-best-alpha c =
    let g = c.args.scoring in
    let p = c.args.board in
    let alpha = c.args.alpha in
    let on = c.args.squares.now in
    let a_gives = l.GivesAt-same g p on.a alpha _ c.reply_three-best.result (to_z-of_z w8 c.args.alpha c.ranges.alpha) c.reply_three-best.ensures in
    l.MovesAt-same g p alpha _ c.reply_three-best.result (to_z-of_z w8 c.reply_three-best.result (record { sfits = c.reply_three-best.type_inv }))
    (l.MovesAt-cut g p on.a alpha c.reply_three-best.result c.requires.threshold a_gives (omega (arith, ints, c.if-best-alpha.true)))

pub returns-then-best-alpha-2 : goal.returns-then-best-alpha-2
returns-then-best-alpha-2 c =
    let g = c.args.scoring in
    let p = c.args.board in
    let alpha = c.args.alpha in
    let on = c.args.squares.now in
    l.MovesAt-same g p alpha _ c.greater-best.result (to_z-of_z w8 c.greater-best.result (record { sfits = c.greater-best.type_inv }))
    (l.MovesAt-later g p on.b (on.b ∷ on.c ∷ on.d ∷ []) alpha c.reply_three-best.result c.reply_three.result c.greater-best.result
    c.requires.threshold
    (l.Tried-first g p alpha on.a (on.b ∷ on.c ∷ on.d ∷ []) c.reply_three-best.result c.requires.last
    (l.GivesAt-same g p on.a alpha _ c.reply_three-best.result (to_z-of_z w8 c.args.alpha c.ranges.alpha) c.reply_three-best.ensures)
    (omega (arith, ints, c.if-best-alpha.false)))
    (l.GivesAt-same g p on.b alpha _ c.reply_three.result (to_z-of_z w8 c.args.alpha c.ranges.alpha) c.reply_three.ensures)
    (l.greater-of c.reply_three-best.result c.reply_three.result c.greater-best.result _ _ (to_z-of_z w8 c.reply_three-best.result (record { sfits = c.reply_three-best.type_inv }))
    (to_z-of_z w8 c.reply_three.result (record { sfits = c.reply_three.type_inv })) c.greater-best.ensures.left c.greater-best.ensures.right c.greater-best.ensures.one)
    (omega (arith, ints, c.if-best-alpha-2.true)))

pub returns-then-best-alpha-3 : goal.returns-then-best-alpha-3
returns-then-best-alpha-3 c =
    let g = c.args.scoring in
    let p = c.args.board in
    let alpha = c.args.alpha in
    let on = c.args.squares.now in
    l.MovesAt-same g p alpha _ c.greater-best-2.result (to_z-of_z w8 c.greater-best-2.result (record { sfits = c.greater-best-2.type_inv }))
    (l.MovesAt-later g p on.c (on.c ∷ on.d ∷ []) alpha c.greater-best.result c.reply_three-2.result c.greater-best-2.result
    c.requires.threshold
    (l.Tried-next g p alpha on.b (on.c ∷ on.d ∷ []) c.reply_three-best.result c.reply_three.result c.greater-best.result
    (l.Tried-first g p alpha on.a (on.b ∷ on.c ∷ on.d ∷ []) c.reply_three-best.result c.requires.last
    (l.GivesAt-same g p on.a alpha _ c.reply_three-best.result (to_z-of_z w8 c.args.alpha c.ranges.alpha) c.reply_three-best.ensures)
    (omega (arith, ints, c.if-best-alpha.false)))
    (l.GivesAt-same g p on.b alpha _ c.reply_three.result (to_z-of_z w8 c.args.alpha c.ranges.alpha) c.reply_three.ensures)
    (l.greater-of c.reply_three-best.result c.reply_three.result c.greater-best.result _ _ (to_z-of_z w8 c.reply_three-best.result (record { sfits = c.reply_three-best.type_inv }))
    (to_z-of_z w8 c.reply_three.result (record { sfits = c.reply_three.type_inv })) c.greater-best.ensures.left c.greater-best.ensures.right c.greater-best.ensures.one)
    (omega (arith, ints, c.if-best-alpha-2.false)))
    (l.GivesAt-same g p on.c alpha _ c.reply_three-2.result (to_z-of_z w8 c.args.alpha c.ranges.alpha) c.reply_three-2.ensures)
    (l.greater-of c.greater-best.result c.reply_three-2.result c.greater-best-2.result _ _ (to_z-of_z w8 c.greater-best.result (record { sfits = c.greater-best.type_inv }))
    (to_z-of_z w8 c.reply_three-2.result (record { sfits = c.reply_three-2.type_inv })) c.greater-best-2.ensures.left c.greater-best-2.ensures.right c.greater-best-2.ensures.one)
    (omega (arith, ints, c.if-best-alpha-3.true)))

pub returns : goal.returns
returns c =
    let g = c.args.scoring in
    let p = c.args.board in
    let alpha = c.args.alpha in
    let on = c.args.squares.now in
    l.MovesAt-same g p alpha _ c.greater.result (to_z-of_z w8 c.greater.result (record { sfits = c.greater.type_inv }))
    (l.MovesAt-last g p on.d alpha c.greater-best-2.result c.reply_three-3.result c.greater.result c.requires.threshold
    (l.Tried-next g p alpha on.c (on.d ∷ []) c.greater-best.result c.reply_three-2.result c.greater-best-2.result
    (l.Tried-next g p alpha on.b (on.c ∷ on.d ∷ []) c.reply_three-best.result c.reply_three.result c.greater-best.result
    (l.Tried-first g p alpha on.a (on.b ∷ on.c ∷ on.d ∷ []) c.reply_three-best.result c.requires.last
    (l.GivesAt-same g p on.a alpha _ c.reply_three-best.result (to_z-of_z w8 c.args.alpha c.ranges.alpha) c.reply_three-best.ensures)
    (omega (arith, ints, c.if-best-alpha.false)))
    (l.GivesAt-same g p on.b alpha _ c.reply_three.result (to_z-of_z w8 c.args.alpha c.ranges.alpha) c.reply_three.ensures)
    (l.greater-of c.reply_three-best.result c.reply_three.result c.greater-best.result _ _ (to_z-of_z w8 c.reply_three-best.result (record { sfits = c.reply_three-best.type_inv }))
    (to_z-of_z w8 c.reply_three.result (record { sfits = c.reply_three.type_inv })) c.greater-best.ensures.left c.greater-best.ensures.right c.greater-best.ensures.one)
    (omega (arith, ints, c.if-best-alpha-2.false)))
    (l.GivesAt-same g p on.c alpha _ c.reply_three-2.result (to_z-of_z w8 c.args.alpha c.ranges.alpha) c.reply_three-2.ensures)
    (l.greater-of c.greater-best.result c.reply_three-2.result c.greater-best-2.result _ _ (to_z-of_z w8 c.greater-best.result (record { sfits = c.greater-best.type_inv }))
    (to_z-of_z w8 c.reply_three-2.result (record { sfits = c.reply_three-2.type_inv })) c.greater-best-2.ensures.left c.greater-best-2.ensures.right c.greater-best-2.ensures.one)
    (omega (arith, ints, c.if-best-alpha-3.false)))
    (l.GivesAt-same g p on.d alpha _ c.reply_three-3.result (to_z-of_z w8 c.args.alpha c.ranges.alpha) c.reply_three-3.ensures)
    (l.greater-of c.greater-best-2.result c.reply_three-3.result c.greater.result _ _ (to_z-of_z w8 c.greater-best-2.result (record { sfits = c.greater-best-2.type_inv }))
    (to_z-of_z w8 c.reply_three-3.result (record { sfits = c.reply_three-3.type_inv }))
    c.greater.ensures.left c.greater.ensures.right c.greater.ensures.one))

pub reply_three-requires-3-clause-last : goal.reply_three-requires-3-clause-last
reply_three-requires-3-clause-last c = l.Leaves-fourth c.args.board c.args.squares.now.a c.args.squares.now.b c.args.squares.now.c c.args.squares.now.d [] c.requires.last

pub reply_three-requires-2-clause-last : goal.reply_three-requires-2-clause-last
reply_three-requires-2-clause-last c = l.Leaves-third c.args.board c.args.squares.now.a c.args.squares.now.b c.args.squares.now.c (c.args.squares.now.d ∷ []) c.requires.last
