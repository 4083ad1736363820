use Rattle.std.proofs.Common.{◌∷◌, [], arith}
use Rattle.std.proofs.lemmas.Int.{ints}
use Rattle.oth_rules.proofs.SearchLaws.{IsScore-value}
use Rattle.oth_search.proofs.NwsLemmas.Lasts as l
use Rattle.oth_search.proofs.nws.last.nws_last.Goals as goal

pub returns-then-rest-eq0 : goal.returns-then-rest-eq0
returns-then-rest-eq0 c =
    let v = l.IsScore-score c.args.scoring c.args.board in
    let is = rw c.board.ensures at c.final_score.ensures in
    l.BoundsAt-full c.args.scoring c.args.board c.args.alpha _
    (l.Leaves-all c.args.board [] c.args.empties.all
    (l.LeavesBut-start c.args.board c.args.empties.all c.requires.empties)
    c.if-rest-eq0.true)
    (omega (arith, ints, is, v.low, v.high))

pub last_one-requires : goal.last_one-requires
last_one-requires c =
    let p = c.args.board in
    let first = c.preferred-a.result in
    let start = l.LeavesBut-start p c.args.empties.all c.requires.empties in
    let but_a =
    l.LeavesBut-next p [] c.args.empties.all first c.without-rest.result start c.preferred-a.ensures
    c.without-rest.ensures.rest in
    rw c.board-then-rest-eq0-2.ensures (l.Leaves-all p (first ∷ []) c.without-rest.result but_a c.if-rest-eq0-2.true)

pub last_two-requires-clause-last : goal.last_two-requires-clause-last
last_two-requires-clause-last c =
    let p = c.args.board in
    let first = c.preferred-a.result in
    let second = c.preferred-b.result in
    let start = l.LeavesBut-start p c.args.empties.all c.requires.empties in
    let but_a =
    l.LeavesBut-next p [] c.args.empties.all first c.without-rest.result start c.preferred-a.ensures
    c.without-rest.ensures.rest in
    let but_b =
    l.LeavesBut-next p (first ∷ []) c.without-rest.result second c.without-rest-2.result but_a c.preferred-b.ensures
    c.without-rest-2.ensures.rest in
    (l.Leaves-all p (first ∷ second ∷ []) c.without-rest-2.result but_b c.if-rest-eq0-3.true)

pub last_three-requires-clause-last : goal.last_three-requires-clause-last
last_three-requires-clause-last c =
    let p = c.args.board in
    let first = c.preferred-a.result in
    let second = c.preferred-b.result in
    let third = c.preferred-c.result in
    let start = l.LeavesBut-start p c.args.empties.all c.requires.empties in
    let but_a =
    l.LeavesBut-next p [] c.args.empties.all first c.without-rest.result start c.preferred-a.ensures
    c.without-rest.ensures.rest in
    let but_b =
    l.LeavesBut-next p (first ∷ []) c.without-rest.result second c.without-rest-2.result but_a c.preferred-b.ensures
    c.without-rest-2.ensures.rest in
    let but_c =
    l.LeavesBut-next p (first ∷ second ∷ []) c.without-rest-2.result third c.without-rest-3.result but_b c.preferred-c.ensures
    c.without-rest-3.ensures.rest in
    (l.Leaves-all p (first ∷ second ∷ third ∷ []) c.without-rest-3.result but_c c.if-rest-eq0-4.true)

pub last_four-requires-clause-last : goal.last_four-requires-clause-last
last_four-requires-clause-last c =
    let p = c.args.board in
    let first = c.preferred-a.result in
    let second = c.preferred-b.result in
    let third = c.preferred-c.result in
    let fourth = c.preferred-d.result in
    let start = l.LeavesBut-start p c.args.empties.all c.requires.empties in
    let but_a =
    l.LeavesBut-next p [] c.args.empties.all first c.without-rest.result start c.preferred-a.ensures
    c.without-rest.ensures.rest in
    let but_b =
    l.LeavesBut-next p (first ∷ []) c.without-rest.result second c.without-rest-2.result but_a c.preferred-b.ensures
    c.without-rest-2.ensures.rest in
    let but_c =
    l.LeavesBut-next p (first ∷ second ∷ []) c.without-rest-2.result third c.without-rest-3.result but_b c.preferred-c.ensures
    c.without-rest-3.ensures.rest in
    let but_d =
    l.LeavesBut-next p (first ∷ second ∷ third ∷ []) c.without-rest-3.result fourth c.without.result but_c c.preferred-d.ensures
    c.without.ensures.rest in
    (l.Leaves-all p (first ∷ second ∷ third ∷ fourth ∷ []) c.without.result but_d c.if-without-eq0.true)

pub returns-then-rest-eq0-2 : goal.returns-then-rest-eq0-2
returns-then-rest-eq0-2 c =
    let v = IsScore-value c.args.scoring c.args.board in
    let is = rw c.board-then-rest-eq0-2.ensures at c.last_one.ensures in
    l.BoundsAt-value c.args.scoring c.args.board c.args.alpha _ c.last_one.result (omega (arith, ints, is, v.low, v.high)) is
